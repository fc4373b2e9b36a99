use Rattle.std.proofs.Common.{take}
use Rattle.std.specs.Prelude.{Contains}
use Rattle.drafts.specs.declared.change.Written.{Written}
use Rattle.hash_inserts.specs.Inserting.{MayChange}
use Rattle.hash_inserts.proofs.committing.are_inside.Given as goal

abbrev pub invariant-loop-one : goal.invariant-loop-one
invariant-loop-one g l = (w : Written) → Contains (take l.one-index l.blocks) w → MayChange (g.V.View.seen l.view) l.dir l.taken w.block
