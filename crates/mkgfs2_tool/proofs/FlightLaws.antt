-- Writes in flight to rising blocks.
use Rattle.std.proofs.Common.{ℕ, ◌≡◌, ◌<◌, ◌+◌, List, [], ◌∷◌, length, Bool, true, false, refl, sym, subst, ap, ◌∙◌, arith}
use Rattle.std.specs.Prelude.{◌==◌, nat_lt, if◌then◌else◌, None, Some}
use Rattle.std.specs.List.{AllByRecursion}
use Rattle.std.proofs.lemmas.Bool.Decides.{nat_tests}
use Rattle.shared_disk.specs.Disk.{Flight, flight_to, with_flight}

abbrev pub AreBelow : ℕ → List Flight → Type 0
AreBelow b flights = AllByRecursion (λ f. f.block < b) flights

-- no write goes to a block that is no lower than all of theirs
pub none_to : (b : ℕ) (flights : List Flight) → AreBelow b flights → flight_to flights b ≡ None
none_to b [] below = refl
none_to b (f ∷ fs) below = let other : (f.block == b) ≡ false = grind (arith, nat_tests, below.0) in rw other (none_to b fs below.1)

-- a write to a higher block comes last
comes_later : (f : Flight) (fs : List Flight) (new : Flight) → f.block < new.block → with_flight (f ∷ fs) new ≡ f ∷ with_flight fs new
comes_later f fs new below = let no : nat_lt new.block f.block ≡ false = grind (arith, nat_tests, below) in rw no refl

-- one more write is the write to its block, and the others are as before
pub with_one : (flights : List Flight) (new : Flight) (k : ℕ) → AreBelow new.block flights
    → flight_to (with_flight flights new) k ≡ (if new.block == k then Some new.bytes else flight_to flights k)
with_one [] new k below = refl
with_one (f ∷ fs) new k below = ap (λ fs. flight_to fs k) (comes_later f fs new below.0) ∙ by_test (f.block == k) refl (with_one fs new k below.1)
  where
    by_test : (v : Bool) → (f.block == k) ≡ v → flight_to (with_flight fs new) k ≡ (if new.block == k then Some new.bytes else flight_to fs k) → flight_to (f ∷ with_flight fs new) k ≡ (if new.block == k then Some new.bytes else flight_to (f ∷ fs) k)
    by_test true is before = let other : (new.block == k) ≡ false = grind (arith, nat_tests, below.0, is) in rw (is, other) refl
    by_test false is before = rw is before

pub length-with : (flights : List Flight) (new : Flight) → AreBelow new.block flights → length (with_flight flights new) ≡ length flights + 1
length-with [] new below = refl
length-with (f ∷ fs) new below = ap length (comes_later f fs new below.0) ∙ (let rest = length-with fs new below.1 in omega (arith, rest))

pub with_below : (b : ℕ) (flights : List Flight) (new : Flight) → new.block ≡ b → AreBelow b flights → AreBelow (b + 1) (with_flight flights new)
with_below b [] new is below = (omega (arith, is), tt)
with_below b (f ∷ fs) new is below =
    subst (AreBelow (b + 1)) (sym (comes_later f fs new (omega (arith, below.0, is)))) (omega (arith, below.0), with_below b fs new is below.1)

pub below_more : (b : ℕ) (flights : List Flight) → AreBelow b flights → AreBelow (b + 1) flights
below_more b [] below = tt
below_more b (f ∷ fs) below = (omega (arith, below.0), below_more b fs below.1)
