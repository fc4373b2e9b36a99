use Rattle.std.proofs.Common.{ℕ, take}
use Rattle.std.specs.Prelude.{Contains}
use Rattle.resource_groups.specs.Putting.{HasDataBlock}
use Rattle.file_changes.proofs.inside.all_are_data.Given as goal

abbrev pub invariant-loop-block : goal.invariant-loop-block
invariant-loop-block g l = (b : ℕ) → Contains (take l.block-index l.blocks) b → HasDataBlock (g.V.View.seen l.view) b
