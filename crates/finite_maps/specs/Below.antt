-- The finite map that a function on numbers below a bound stands for.
use Rattle.std.specs.Prelude.{ℕ, zero, suc, Option, None, Some}
use Rattle.std.specs.Ordering.{nat_cmp}
use Rattle.std.specs.FinMap.{FinMap, empty, insert}

abbrev pub entered : {V : Type 0} → ℕ → Option V → FinMap nat_cmp V → FinMap nat_cmp V
entered n None m = m
entered n (Some v) m = insert m n v

-- the numbers below n at which f has a value, with these values
abbrev pub map_below : {V : Type 0} → (ℕ → Option V) → ℕ → FinMap nat_cmp V
map_below f zero = empty
map_below f (suc n) = entered n (f n) (map_below f n)
