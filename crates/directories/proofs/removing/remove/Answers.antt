use Rattle.std.proofs.Common.{sym, ◌∙◌}
use Rattle.glock_names.proofs.StepLaws.{answer_at}
use Rattle.glock_names.specs.Steps.{TellsOf}
use Rattle.drafts.specs.Fates.{seen_in}
use Rattle.dinode_tree.proofs.Sound.{some_is_shown}
use Rattle.linear_dirs.proofs.Looked.{handed}
use Rattle.linear_dirs.specs.Broken as linear
use Rattle.directories.specs.Shown as directory
use Rattle.directories.proofs.Forms.{hashed_here, is_directory_here, linear_here, linear_in, tells_as}
use Rattle.directories.proofs.Taken.{linear_puts, linear_without, named_linear}
use Rattle.directories.proofs.removing.remove.Goals as goal

pub remove_hashed-requires-clause-hashed : goal.remove_hashed-requires-clause-hashed
remove_hashed-requires-clause-hashed g c h shown =
    let v = seen_in g.V.View.seen c.args.draft.now in
    let is = is_directory_here v c.args.dir h c.requires.directory (answer_at _ _ _ c.in-Is.is c.in_ok-dinode.ensures.there) shown.inode in
    hashed_here h c.in-Is.dinode (answer_at _ _ _ c.in-Is.is (c.in_ok-dinode.ensures.found h shown.inode)) is (sym c.is_hashed.ensures ∙ c.if-is_hashed.true)

pub remove-requires-clause-linear : goal.remove-requires-clause-linear
remove-requires-clause-linear g c =
    let v = seen_in g.V.View.seen c.args.draft.now in
    linear_in v c.args.dir c.in-Is.dinode c.requires.directory (λ h shown. answer_at _ _ _ c.in-Is.is (c.in_ok-dinode.ensures.found h shown)) (let s = some_is_shown v c.args.dir in (s.0, s.1.0)) (sym c.is_hashed.ensures ∙ c.if-is_hashed.false)

pub remove-requires-clause-named : goal.remove-requires-clause-named
remove-requires-clause-named g c =
    let v = seen_in g.V.View.seen c.args.draft.now in
    named_linear v c.args.dir c.args.name.now c.block_size-size.ensures.view
    (λ h shown. linear_here h c.in-Is.dinode (answer_at _ _ _ c.in-Is.is (c.in_ok-dinode.ensures.found h shown.inode)) (sym c.is_hashed.ensures ∙ c.if-is_hashed.false)) c.requires.named

pub returns-in_err-remove-clause-damaged : goal.returns-in_err-remove-clause-damaged
returns-in_err-remove-clause-damaged g c h shown =
    let v = seen_in g.V.View.seen c.args.draft.now in
    let is = is_directory_here v c.args.dir h c.requires.directory (answer_at _ _ _ c.in-Is.is c.in_ok-dinode.ensures.there) shown.inode in
    let plain = linear_here h c.in-Is.dinode (answer_at _ _ _ c.in-Is.is (c.in_ok-dinode.ensures.found h shown.inode)) (sym c.is_hashed.ensures ∙ c.if-is_hashed.false) in
    handed c.from_residual-in_err-remove.result _ (TellsOf (directory.IsBroken v h)) c.from_residual-in_err-remove.ensures.1
    (tells_as (linear.IsBroken h) (directory.IsBroken v h) c.in_err-remove.field-0.0 (λ rule b broken. directory.IsBroken.in_linear is plain broken) (c.in_err-remove.ensures.damaged h shown.inode))

pub returns-in-Is-2-clause-taken : goal.returns-in-Is-2-clause-taken
returns-in-Is-2-clause-taken g c =
    linear_without g.V.View.seen c.args.draft.now c.remove.new.draft c.args.dir c.args.name.now
    (λ h shown. linear_here h c.in-Is.dinode (answer_at _ _ _ c.in-Is.is (c.in_ok-dinode.ensures.found h shown.inode)) (sym c.is_hashed.ensures ∙ c.if-is_hashed.false))
    (λ h r shown named. answer_at _ _ _ c.in-Is-2.is (c.in_ok-remove.ensures.removed h r shown named))
    (λ h shown. answer_at _ _ _ c.in-Is-2.is (c.in_ok-remove.ensures.slots h shown))
    (λ h shown. answer_at _ _ _ c.in-Is-2.is (c.in_ok-remove.ensures.dinode h shown))
    (λ h shown. answer_at _ _ _ c.in-Is-2.is (c.in_ok-remove.ensures.laid h shown))

pub returns-in-Is-2-clause-two : goal.returns-in-Is-2-clause-two
returns-in-Is-2-clause-two g c =
    let one = answer_at _ _ _ c.in-Is-2.is c.in_ok-remove.ensures.one in
    linear_puts g.V.View.seen c.args.draft.now c.remove.new.draft c.args.dir c.args.name.now c.block_size-size.ensures.view (answer_at _ _ _ c.in-Is.is c.in_ok-dinode.ensures.there) one.0 one.1
    (λ h shown. answer_at _ _ _ c.in-Is-2.is (c.in_ok-remove.ensures.laid h shown))
