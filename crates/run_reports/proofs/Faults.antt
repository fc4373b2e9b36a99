-- A sink whose count rose while it was written to.
use Rattle.std.proofs.Common.{◌≡◌, ℕ, ◌≤◌, Bool, true, false, ◌∙◌, subst, sym, arith}
use Rattle.fault_counts.specs.Causes.{Rose, WentUp}

pub went_up : (before now x y : ℕ) → x ≡ before → y ≡ now → before ≤ now → Rose before now → WentUp before now x y
went_up before now x y at_first at_last later rose = record {
  from = omega (arith, at_first);
  rose = subst (λ (n : ℕ). Rose n y) (sym at_first) (subst (Rose before) (sym at_last) rose);
  to = omega (arith, at_last);
}

pub never_both : (b : Bool) → b ≡ false → b ≡ true → ⊥
never_both b isnt is = let both : true ≡ false = sym is ∙ isnt in cc
