use Rattle.std.proofs.Common.{subst}
use Rattle.drafts.specs.declared.change.Written.{Written}
use Rattle.image_changes.specs.Does.{LiesInGroup}
use Rattle.group_locks.proofs.Fronts.{each_next}
use Rattle.file_changes.proofs.inside.all_lie.Goals as goal

pub loop-one-preserved : goal.loop-one-preserved
loop-one-preserved g c =
    let v = g.V.View.seen c.args.view.now in
    each_next c.args.written.now c.loop-one.one-index c.one-item.result (λ w. LiesInGroup v w.block) c.loop-one-test.true c.loop-one.invariant
    (subst (λ (w : Written). LiesInGroup v w.block) c.one-item.is (c.lies_in_group.ensures.0 c.if-not-lies_in_group.false))
