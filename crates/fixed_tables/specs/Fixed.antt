-- A table in fixed room, as its callers see it: a finite map, and how many numbers it has room for.
use Rattle.std.specs.Prelude.{ℕ, Bool, Option, None, Some, if◌then◌else◌, refl}
use Rattle.std.specs.Ordering.{nat_cmp}
use Rattle.std.specs.Coded.{Coded, code_by, coded×, coded_ℕ}
use Rattle.std.specs.FinMap.{FinMap, code}

pub record Fixed (V : Type 0) : Type 0 where
  pub at : FinMap nat_cmp V
  pub room : ℕ

abbrev pub fixed_code : {V : Type 0} → Coded V → Coded (Fixed V)
fixed_code {V} v = code_by (FinMap nat_cmp V × ℕ) (coded× (code coded_ℕ v) coded_ℕ) (λ t. (t.at, t.room)) (λ p. record { at = p.0; room = p.1 }) (λ _. refl)

-- a value that passes a test is left
abbrev pub left_by : {V : Type 0} → (V → Bool) → Option V → Option V
left_by test None = None
left_by test (Some v) = if test v then Some v else None
