-- Fronts of lists, and what is left behind them.
use Rattle.std.proofs.Common.{◌≡◌, ℕ, zero, suc, List, [], ◌∷◌, drop, Some, ap}
use Rattle.std.specs.Prelude.{slice_get}

pub drop_next : {A : Type 0} (xs : List A) (k : ℕ) (x : A) → slice_get xs k ≡ Some x → drop k xs ≡ x ∷ drop (suc k) xs
drop_next [] k x at = cc
drop_next {A} (y ∷ ys) zero x at = let same : y ≡ x = cc in ap (λ (z : A). z ∷ ys) same
drop_next (y ∷ ys) (suc k) x at = drop_next ys k x at
