-- A run that passes over a crash line.
use Rattle.std.proofs.Common.{◌≡◌, ℕ, zero, suc}
use Rattle.run_rules.specs.Follows.{Stopped, standing}
use Rattle.run_rules.specs.Laws.{list_alone}

-- without a crash item the node is nowhere stopped
pub never_stopped : {A : Type 0} (p : ℕ) → standing list_alone 1 p ≡ Stopped → A
never_stopped zero is = cc
never_stopped (suc zero) is = cc
never_stopped (suc (suc zero)) is = cc
never_stopped (suc (suc (suc zero))) is = cc
never_stopped (suc (suc (suc (suc p)))) is = cc
