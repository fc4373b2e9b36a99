-- What a write and a barrier of node 1 make of a disk, and of what is in flight.
use Rattle.std.proofs.Common.{◌≡◌, ◌≢◌, ◌≤◌, ℕ, suc, Bool, true, false, List, [], ◌∷◌, length, Option, None, Some, refl, sym, ap, ◌∙◌, arith}
use Rattle.std.specs.Prelude.{◌==◌, nat_lt, if◌then◌else◌}
use Rattle.std.proofs.lemmas.Bool.{cond-false, ne_eqb}
use Rattle.shared_disk.specs.Disk.{DiskState, Flight, after_barrier, after_write, flight_to, with_flight}
use Rattle.logged_node.specs.Nodes.{IsSameDisk}

-- ---- it is the same disk

pub same_disk : (d : DiskState) → IsSameDisk d d
same_disk d = record { size = refl; count = refl; tells = refl; fenced = refl }

pub same_on : (a b c : DiskState) → IsSameDisk a b → IsSameDisk b c → IsSameDisk a c
same_on a b c x y = record { size = y.size ∙ x.size; count = y.count ∙ x.count; tells = y.tells ∙ x.tells; fenced = y.fenced ∙ x.fenced }

alike : (d e : DiskState) → d ≡ e → IsSameDisk d e
alike d e is = record { size = sym (ap (λ (x : DiskState). x.size) is); count = sym (ap (λ (x : DiskState). x.count) is); tells = sym (ap (λ (x : DiskState). x.tells) is); fenced = sym (ap (λ (x : DiskState). x.is_fenced) is) }

pub same_written : (d d' : DiskState) (b : ℕ) (bytes : List ℕ) → d' ≡ after_write d 1 b bytes → IsSameDisk d d'
same_written d d' b bytes is = same_on d (after_write d 1 b bytes) d' (record { size = refl; count = refl; tells = refl; fenced = refl }) (alike (after_write d 1 b bytes) d' (sym is))

pub same_barrier : (d d' : DiskState) → d' ≡ after_barrier d 1 → IsSameDisk d d'
same_barrier d d' is = same_on d (after_barrier d 1) d' (record { size = refl; count = refl; tells = refl; fenced = refl }) (alike (after_barrier d 1) d' (sym is))

-- ---- one more write in flight

pub length_with : (fs : List Flight) (new : Flight) → length (with_flight fs new) ≡ suc (length fs)
length_with [] new = refl
length_with (f ∷ fs) new = by (nat_lt new.block f.block) (length_with fs new)
  where
    by : (t : Bool) → length (with_flight fs new) ≡ suc (length fs) → length (if t then new ∷ f ∷ fs else f ∷ with_flight fs new) ≡ suc (suc (length fs))
    by true behind = refl
    by false behind = ap suc behind

-- what flies elsewhere is what did
pub flies_elsewhere : (fs : List Flight) (new : Flight) (c : ℕ) → c ≢ new.block → flight_to (with_flight fs new) c ≡ flight_to fs c
flies_elsewhere [] new c off = cond-false (new.block == c) (Some new.bytes) None (ne_eqb new.block c (λ e. off (sym e)))
flies_elsewhere (f ∷ fs) new c off = by (nat_lt new.block f.block) (flies_elsewhere fs new c off)
  where
    by : (t : Bool) → flight_to (with_flight fs new) c ≡ flight_to fs c → flight_to (if t then new ∷ f ∷ fs else f ∷ with_flight fs new) c ≡ flight_to (f ∷ fs) c
    by true behind = cond-false (new.block == c) (Some new.bytes) (flight_to (f ∷ fs) c) (ne_eqb new.block c (λ e. off (sym e)))
    by false behind = ap (λ (o : Option (List ℕ)). if f.block == c then Some f.bytes else o) behind

pub none_in : (fs : List Flight) → length fs ≤ 0 → fs ≡ []
none_in [] low = refl
none_in (f ∷ fs) low = absurd (omega (arith, low))

pub flies_some : (fs : List Flight) → 1 ≤ length fs → fs ≢ []
flies_some [] low is = absurd (omega (arith, low))
flies_some (f ∷ fs) low is = cc
