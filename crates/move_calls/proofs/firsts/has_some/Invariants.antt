use Rattle.std.proofs.Common.{ℕ, take}
use Rattle.std.specs.Prelude.{Contains}
use Rattle.resource_groups.specs.Shown.{IsDataOf}
use Rattle.move_calls.proofs.firsts.has_some.Given as goal

abbrev pub invariant-loop-block : goal.invariant-loop-block
invariant-loop-block l = (b : ℕ) → Contains (take l.block-index l.blocks) b → ¬ (IsDataOf l.group b)
