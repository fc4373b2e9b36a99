use Rattle.std.proofs.Common.{subst}
use Rattle.std.specs.Prelude.{Contains}
use Rattle.glock_names.proofs.StepLaws.{answer_at, needed_at}
use Rattle.dinode_tree.specs.Broken.{IsBroken}
use Rattle.file_changes.specs.Drafting.{IsWrongAt, in_inode, stray}
use Rattle.file_changes.proofs.inside.tell_stray.Goals as goal
use Rattle.group_locks.proofs.Faults.{told_on, tells_so, tells_all}

pub returns-in_err-below-clause-damaged : goal.returns-in_err-below-clause-damaged
returns-in_err-below-clause-damaged g c blocks =
    let v = g.V.View.seen c.args.view.now in
    told_on (IsWrongAt v c.args.inode blocks) c.from_residual.result _ c.from_residual.ensures.1
    (tells_so _ (IsWrongAt v c.args.inode blocks) in_inode c.in_err-below.field-0.0 (tells_all v c.args.inode IsBroken c.in_err-below.field-0.0 c.in_err-below.ensures.damaged))

pub returns-in-NeedBlock-clause-needed : goal.returns-in-NeedBlock-clause-needed
returns-in-NeedBlock-clause-needed g c h shown = needed_at _ _ _ c.in-NeedBlock.is (c.in_ok-below.ensures.needed h shown)

pub returns-in-Some-clause-damaged : goal.returns-in-Some-clause-damaged
returns-in-Some-clause-damaged g c blocks =
    let there : Contains c.in-Is.below.items c.in-Some.stray = subst (λ ps. Contains ps c.in-Some.stray) c.deref.ensures.value c.in-Some.ensures.0 in
    stray c.in-Some.stray.from c.in-Some.stray.block (λ h shown. answer_at _ _ _ c.in-Is.is (c.in_ok-below.ensures.led h shown) c.in-Some.stray there) c.in-Some.ensures.1
