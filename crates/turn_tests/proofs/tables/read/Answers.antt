use Rattle.std.proofs.Common.{ℕ, ◌≤◌, sym, subst}
use Rattle.turn_tests.proofs.tables.read.Goals as goal

pub returns-clause-grown : goal.returns-clause-grown
returns-clause-grown g c = λ x seen. subst (λ (n : ℕ). x ≤ n) (sym c.value-value.ensures) (c.enter-held.ensures.grown x seen)
