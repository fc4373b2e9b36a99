use Rattle.std.specs.Prelude.{Contains, take}
use Rattle.glock_names.specs.Views.{HasBlock}
use Rattle.dinode_tree.specs.declared.below.PointedBlock.{PointedBlock}
use Rattle.hash_inserts.proofs.looking.first_missing.Given as goal

abbrev pub invariant-loop-pointed : goal.invariant-loop-pointed
invariant-loop-pointed g l = (p : PointedBlock) → Contains (take l.pointed-index l.blocks) p → HasBlock (g.V.View.seen l.view) p.block
