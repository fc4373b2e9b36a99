-- Counts of faults, and when a fault may be answered.
use Rattle.std.specs.Prelude.{ℕ, ◌+◌, ◌-◌, ◌^◌, ◌≤◌, min, Result, OnErr}

-- what one more fault makes of a count, which stands still at its type's end
abbrev pub raised_once : ℕ → ℕ
raised_once count = min (count + 1) (2 ^ 64 - 1)

-- the count is greater now, or stood at its type's end
abbrev pub Rose : ℕ → ℕ → Type 0
Rose before now = raised_once before ≤ now

-- the count has not fallen, and an error comes only where it rose
pub record HasCause {T E : Type 0} (before now : ℕ) (result : Result T E) : Type 0 where
  pub later : before ≤ now
  pub failed : OnErr result (Rose before now)

-- while the count went from `before` to `now`, it rose from x to y
pub record WentUp (before now x y : ℕ) : Type 0 where
  pub from : before ≤ x
  pub rose : Rose x y
  pub to : y ≤ now
