-- Writes at which the disk fails.
use Rattle.std.proofs.Common.{◌≡◌, ◌⊎◌, ℕ, suc, ◌+◌, ◌*◌, ◌-◌, ◌<◌, ◌≤◌, ◌≢◌, min, List, [], ◌∷◌, ◌++◌, length, take, drop, get_or, Option, None, Some, inl, inr, refl, sym, ap, ◌∙◌, subst, arith}
use Rattle.std.proofs.lemmas.List.{length-append, length-drop, length-take-le}
use Rattle.std.proofs.lemmas.Option.{slice_get-get_or}
use Rattle.drafts.specs.declared.change.Written.{Written}
use Rattle.shared_disk.specs.Disk.{DiskState, Gains, Operation, Write, after_write}
use Rattle.fault_counts.specs.declared.Rise.{Rise}
use Rattle.disk_turns.specs.Faults.{HasStoppedAs, HasStoppedInAs}
use Rattle.disk_turns.specs.declared.faults.TurnFault.{TurnFault}
use Rattle.disk_turns.specs.Turns.{BringsTo, IsTurn, Moment, at_barrier, before_it, behind_it, moment, most_in_flight, writes_of}
use Rattle.disk_turns.specs.Writing.{AreInFlight, RiseFrom, flights_of}
use Rattle.disk_turns.proofs.Flying.{flies_more}
use Rattle.disk_turns.proofs.Gaining.{gains_write}

-- a write that failed is in flight, or it isn't
pub stopped_write : (node : ℕ) (d now next : DiskState) (a b c : Option (List Operation)) (ws : List Written) (i : ℕ) (w e : Written) (bytes : List ℕ) (rise : Rise) → RiseFrom 0 ws
    → i < length ws → w ≡ get_or ws i e → bytes ≡ w.bytes → AreInFlight node d now (flights_of (take i ws)) → Gains a b (writes_of node (take i ws))
    → ((next ≡ now) × (c ≡ b)) ⊎ ((next ≡ after_write now node w.block bytes) × Gains b c (Write node w.block bytes ∷ []))
    → HasStoppedInAs node (moment d a) (moment next c) ws (record { block = Some w.block; rise = Some rise; on_disk = 0; in_flight = i })
stopped_write node d now next a b c ws i w e bytes rise rises low is same fly gains (inl still) = record {
  stopped = record {
    wrote = take i ws;
    flying = take i ws;
    stops = before_it i w (slice_get-get_or ws i e low ∙ ap Some (sym is));
    disk = subst (λ (s : DiskState). AreInFlight node d s (flights_of (take i ws))) (sym still.0) fly;
    gains = subst (λ o. Gains a o (writes_of node (take i ws))) (sym still.1) gains;
  };
  in_flight = sym (length-take-le i ws (omega (arith, low)));
  exactly = tt;
}
stopped_write node d now next a b c ws i w e bytes rise rises low is same fly gains (inr put) = record {
  stopped = record {
    wrote = take i ws;
    flying = take (i + 1) ws;
    stops = behind_it i w (slice_get-get_or ws i e low ∙ ap Some (sym is));
    disk = flies_more node d now next ws i w e rises low is fly (put.0 ∙ ap (after_write now node w.block) same);
    gains = gains_write node a b c ws i w e bytes low is same gains put.1;
  };
  in_flight = sym (length-take-le i ws (omega (arith, low)));
  exactly = tt;
}

-- behind a barrier that failed all are in flight
pub stopped_barrier : (node : ℕ) (d now next : DiskState) (a b c : Option (List Operation)) (ws : List Written) (n : ℕ) (rise : Rise) → n ≡ length ws → AreInFlight node d now (flights_of ws)
    → Gains a b (writes_of node ws) → (next ≡ now) × (c ≡ b) → HasStoppedInAs node (moment d a) (moment next c) ws (record { block = None; rise = Some rise; on_disk = 0; in_flight = n })
stopped_barrier node d now next a b c ws n rise count fly gains still = record {
  stopped = record {
    wrote = ws;
    flying = ws;
    stops = at_barrier;
    disk = subst (λ (s : DiskState). AreInFlight node d s (flights_of ws)) (sym still.0) fly;
    gains = subst (λ o. Gains a o (writes_of node ws)) (sym still.1) gains;
  };
  in_flight = count;
  exactly = tt;
}

-- the next turn of blocks, of which there are some
pub next_turn : (rest : List Written) (n : ℕ) → 1 ≤ length rest → n ≡ min (length rest) most_in_flight → IsTurn (take n rest) (drop n rest)
next_turn rest n some is = record {
  not_none = let long = length-take-le n rest at_most in omega (arith, long, some, is);
  few = let long = length-take-le n rest at_most in omega (arith, long, is);
  whole = λ more. let long = length-take-le n rest at_most in let left = has_more (drop n rest) more in let count = length-drop n rest in omega (arith, long, is, left, count);
}
  where
    at_most : n ≤ length rest
    at_most = omega (arith, is)

    has_more : (ws : List Written) → ws ≢ [] → 1 ≤ length ws
    has_more [] more = absurd (more refl)
    has_more (w ∷ ws) more = omega arith

-- ---- no block

pub nothing : (ws : List Written) → length ws ≡ 0 → ws ≡ []
nothing [] is = refl
nothing (w ∷ ws) is = absurd (omega (arith, is))

pub has_some : (done some : List Written) → 1 ≤ length some → done ++ some ≡ [] → ⊥
has_some [] [] more is = absurd (omega (arith, more))
has_some [] (w ∷ ws) more is = cc
has_some (v ∷ vs) some more is = cc

pub front_none : (xs ys : List Written) → xs ++ ys ≡ [] → xs ≡ []
front_none [] ys is = refl
front_none (x ∷ xs) ys is = absurd (cc)

-- ---- turns

-- a turn is one before nothing
pub last_turn : (some later : List Written) → IsTurn some later → IsTurn some []
last_turn some later is = record { not_none = is.not_none; few = is.few; whole = λ more. absurd (more refl) }

-- and one before which something stands is one before anything
pub full_turn : (some later more : List Written) → IsTurn some later → later ≢ [] → IsTurn some more
full_turn some later more is left = record { not_none = is.not_none; few = is.few; whole = λ any. is.whole left }

pub one_more : (done some : List Written) (turns : ℕ) → length done ≡ turns * most_in_flight → length some ≡ most_in_flight → length (done ++ some) ≡ suc turns * most_in_flight
one_more done some turns before more = length-append done some ∙ (omega (arith, before, more))

-- the disk failed in the turn behind those that are done
pub stopped_behind : (node : ℕ) (first between after : Moment) (blocks done some later : List Written) → blocks ≡ done ++ (some ++ later) → (turns : ℕ) → length done ≡ turns * most_in_flight
    → IsTurn some later → BringsTo node first between done → (fault : TurnFault) (n : ℕ) → n ≡ length done → HasStoppedInAs node between after some fault
    → HasStoppedAs node first after blocks (record fault { on_disk = n })
stopped_behind node first between after blocks done some later parts turns whole next brought fault n count is = record {
  stopped = record { done = done; some = some; later = later; parts = parts; turns = turns; whole = whole; next = next; between = between; brought = brought; stopped = is.stopped };
  on_disk = count;
  in_flight = is.in_flight;
  exactly = is.exactly;
}

-- where a turn comes next, blocks are left
pub left_of : (rest some later : List Written) → rest ≡ some ++ later → IsTurn some later → rest ≢ []
left_of rest [] later parts is none = let no : 1 ≤ 0 = is.not_none in omega (arith, no)
left_of rest (w ∷ ws) later parts is none = let no : w ∷ (ws ++ later) ≡ [] = sym parts ∙ none in cc

-- the turn in which it failed has the length that is told
pub rest_long : (blocks done rest : List Written) → blocks ≡ done ++ rest → length blocks - length rest ≡ length done
rest_long blocks done rest parts = let all : length blocks ≡ length done + length rest = ap length parts ∙ length-append done rest in omega (arith, all)
