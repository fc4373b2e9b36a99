-- Blocks that are written, by rising number.
use Rattle.std.proofs.Common.{◌≡◌, ℕ, zero, suc, ◌+◌, ◌<◌, ◌≤◌, false, List, [], ◌∷◌, ◌++◌, length, take, get_or, map, None, inl, inr, refl, sym, ap, arith}
use Rattle.std.specs.Prelude.{◌==◌, nat_lt, unwrap_or}
use Rattle.std.proofs.lemmas.Bool.Decides.{nat_tests}
use Rattle.std.specs.List.{AllByRecursion}
use Rattle.std.specs.List.Sorted.{IsStrictlySortedBy}
use Rattle.std.specs.Ordering.{nat_cmp}
use Rattle.std.specs.declared.cmp.Ordering.TheVariants.{Less}
use Rattle.std.proofs.lemmas.Bool.{cases_eq, ne_eqb, eq-eqb}
use Rattle.std.proofs.lemmas.Cmp.{ranked}
use Rattle.drafts.specs.declared.change.Written.{Written}
use Rattle.shared_disk.specs.Disk.{Flight, flight_to, with_flight}
use Rattle.disk_turns.specs.Writing.{RiseFrom, flights_of}

pub lower : (least less : ℕ) (ws : List Written) → less ≤ least → RiseFrom least ws → RiseFrom less ws
lower least less [] low is = tt
lower least less (w ∷ ws) low is = (omega (arith, low, is.0), is.1)

-- a list whose numbers rise strictly
pub sorted_rise : (least : ℕ) (ws : List Written) → AllByRecursion (λ b. least ≤ b) (map (λ (w : Written). w.block) ws) → IsStrictlySortedBy nat_cmp (map (λ (w : Written). w.block) ws) → RiseFrom least ws
unfolding IsStrictlySortedBy
sorted_rise least [] low is = tt
sorted_rise least (w ∷ ws) low is = (low.0, sorted_rise (w.block + 1) ws (above ws is.0) is.1)
  where
    above : (vs : List Written) → AllByRecursion (λ y. nat_cmp w.block y ≡ Less) (map (λ (v : Written). v.block) vs) → AllByRecursion (λ y. w.block + 1 ≤ y) (map (λ (v : Written). v.block) vs)
    above [] all = tt
    above (v ∷ vs) all = (let lt : w.block < v.block = ranked w.block v.block Less (sym all.0) in omega arith, above vs all.1)

pub none_low : (ws : List Written) → AllByRecursion (λ b. 0 ≤ b) (map (λ (w : Written). w.block) ws)
none_low [] = tt
none_low (w ∷ ws) = (omega arith, none_low ws)

-- the blocks before one are below it
pub below : (least : ℕ) (ws : List Written) (i : ℕ) (d : Written) → RiseFrom least ws → i < length ws
    → (least ≤ (get_or ws i d).block) × AllByRecursion (λ (f : Flight). f.block < (get_or ws i d).block) (flights_of (take i ws))
below least [] i d is low = absurd (omega arith)
below least (w ∷ ws) zero d is low = (is.0, tt)
below least (w ∷ ws) (suc i) d is low = let later = below (w.block + 1) ws i d is.1 (omega arith) in (omega (arith, is.0, later.0), (omega (arith, later.0), later.1))

-- a write behind all others goes to their end, and none of them is to its block
pub put_last : (fs : List Flight) (new : Flight) → AllByRecursion (λ (f : Flight). f.block < new.block) fs → with_flight fs new ≡ fs ++ new ∷ []
put_last [] new all = refl
put_last (f ∷ fs) new all = rw (not_less new.block f.block all.0) (ap (λ (gs : List Flight). f ∷ gs) (put_last fs new all.1))
  where
    not_less : (a b : ℕ) → b < a → nat_lt a b ≡ false
    not_less a b h = grind (arith, nat_tests)

pub none_to : (fs : List Flight) (b : ℕ) → AllByRecursion (λ (f : Flight). f.block < b) fs → flight_to fs b ≡ None
none_to [] b all = refl
none_to (f ∷ fs) b all = rw (apart f.block b all.0) (none_to fs b all.1)
  where
    apart : (a b : ℕ) → a < b → (a == b) ≡ false
    apart a b h = grind (arith, nat_tests)

-- ---- two parts of a list that rises

pub front : (least : ℕ) (xs ys : List Written) → RiseFrom least (xs ++ ys) → RiseFrom least xs
front least [] ys is = tt
front least (x ∷ xs) ys is = (is.0, front (x.block + 1) xs ys is.1)

pub back : (least : ℕ) (xs ys : List Written) → RiseFrom least (xs ++ ys) → RiseFrom least ys
back least [] ys is = is
back least (x ∷ xs) ys is = lower (x.block + 1) least ys (omega (arith, is.0)) (back (x.block + 1) xs ys is.1)

pub none_below : (least : ℕ) (ws : List Written) (b : ℕ) → RiseFrom least ws → b < least → flight_to (flights_of ws) b ≡ None
none_below least [] b is low = refl
none_below least (w ∷ ws) b is low = rw (apart w.block b (omega (arith, low, is.0))) (none_below (w.block + 1) ws b is.1 (omega (arith, low, is.0)))
  where
    apart : (a b : ℕ) → b < a → (a == b) ≡ false
    apart a b h = grind (arith, nat_tests)

-- what is written there first, and then over it
pub both : (least : ℕ) (xs ys : List Written) (b : ℕ) (was : List ℕ) → RiseFrom least (xs ++ ys)
    → unwrap_or (flight_to (flights_of ys) b) (unwrap_or (flight_to (flights_of xs) b) was) ≡ unwrap_or (flight_to (flights_of (xs ++ ys)) b) was
both least [] ys b was is = refl
both least (x ∷ xs) ys b was is = elim (cases_eq x.block b) [
  | inl same ↦ rw (eq-eqb x.block b same, none_below (x.block + 1) ys b (back (x.block + 1) xs ys is.1) (omega (arith, same))) refl
  | inr apart ↦ rw (ne_eqb x.block b apart) (both (x.block + 1) xs ys b was is.1)
]
