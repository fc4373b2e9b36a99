use Rattle.std.proofs.Common.{take}
use Rattle.std.specs.Prelude.{Contains}
use Rattle.dinode_tree.specs.declared.below.PointedBlock.{PointedBlock}
use Rattle.resource_groups.specs.Putting.{HasDataBlock}
use Rattle.hash_inserts.proofs.looking.first_stray.Given as goal

abbrev pub invariant-loop-pointed : goal.invariant-loop-pointed
invariant-loop-pointed g l = (p : PointedBlock) → Contains (take l.pointed-index l.blocks) p → HasDataBlock (g.V.View.seen l.view) p.block
