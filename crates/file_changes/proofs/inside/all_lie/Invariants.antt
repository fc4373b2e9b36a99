use Rattle.std.proofs.Common.{take}
use Rattle.std.specs.Prelude.{Contains}
use Rattle.drafts.specs.declared.change.Written.{Written}
use Rattle.image_changes.specs.Does.{LiesInGroup}
use Rattle.file_changes.proofs.inside.all_lie.Given as goal

abbrev pub invariant-loop-one : goal.invariant-loop-one
invariant-loop-one g l = (w : Written) → Contains (take l.one-index l.written) w → LiesInGroup (g.V.View.seen l.view) w.block
