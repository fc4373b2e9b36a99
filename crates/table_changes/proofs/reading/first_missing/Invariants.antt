use Rattle.std.proofs.Common.{take}
use Rattle.std.specs.Prelude.{Contains}
use Rattle.glock_names.specs.Views.{HasBlock}
use Rattle.dinode_tree.specs.declared.below.PointedBlock.{PointedBlock}
use Rattle.table_changes.proofs.reading.first_missing.Given as goal

abbrev pub invariant-loop-pointed : goal.invariant-loop-pointed
invariant-loop-pointed g l = (p : PointedBlock) → Contains (take l.pointed-index l.blocks) p → HasBlock (g.V.View.seen l.view) p.block
