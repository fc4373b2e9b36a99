use Rattle.std.proofs.Common.{sym, ap, ◌∙◌, subst}
use Rattle.drafts.specs.Fates.{seen_in}
use Rattle.glock_names.proofs.StepLaws.{answer_at, needed_at}
use Rattle.glock_names.specs.Steps.{TellsOf}
use Rattle.glock_names.specs.Views.{HasBlock, IsOfView}
use Rattle.directories.specs.Shown.{IsBroken, IsDirectoryIn, IsNeededFor, IsShown}
use Rattle.directories.specs.Taking.{HasNameIn}
use Rattle.name_drafts.proofs.WalkFaults.{told_on, tells_so, tells_each}
use Rattle.gfs2_layout.specs.Holding.{Holding}
use Rattle.name_drafts.proofs.Fates.{seen_old}
use Rattle.name_moves.specs.Becoming.{IsAfter, of_none}
use Rattle.name_moves.proofs.Lost.{first_able, first_lost}
use Rattle.name_moves.proofs.Under.{asked_to_go}
use Rattle.name_moves.proofs.losing.lose_one.Goals as goal

pub remove-requires-clause-directory : goal.remove-requires-clause-directory
remove-requires-clause-directory g c = subst (λ w. IsDirectoryIn w c.args.dir) (sym (seen_old g.V.View.seen c.args.draft.now c.requires.new)) c.requires.directory

pub remove-requires-clause-named : goal.remove-requires-clause-named
remove-requires-clause-named g c = subst (λ w. HasNameIn w c.args.dir c.args.name.now) (sym (seen_old g.V.View.seen c.args.draft.now c.requires.new)) c.requires.named

pub returns-in_err-_leaf-clause-damaged : goal.returns-in_err-_leaf-clause-damaged
returns-in_err-_leaf-clause-damaged g c =
    let v = g.V.View.seen c.args.draft.now.view in
    let same = seen_old g.V.View.seen c.args.draft.now c.requires.new in
    told_on (λ rule block. IsAfter v c.args.dir _ (λ k. IsBroken v k rule block)) _ _ c.from_residual.ensures.1
    (tells_so (λ rule b. (h : Holding) → IsShown v c.args.dir h → IsBroken v h rule b) _ (λ rule b broken h shown any. (h, of_none h, broken h shown)) c.in_err-_leaf.field-0.0
    (tells_each (IsShown v c.args.dir) (IsBroken v) c.in_err-_leaf.field-0.0
    (λ h shown. subst (λ w. TellsOf (IsBroken w h) c.in_err-_leaf.field-0.0) same (c.in_err-_leaf.ensures.damaged h (subst (λ w. IsShown w c.args.dir h) (sym same) shown)))))

pub returns-in_err-_leaf-clause-kept : goal.returns-in_err-_leaf-clause-kept
returns-in_err-_leaf-clause-kept g c =
    told_on (IsOfView (g.V.View.seen c.args.draft.now.view)) _ _ c.from_residual.ensures.1
    (subst (λ w. TellsOf (IsOfView w) c.in_err-_leaf.field-0.0) (seen_old g.V.View.seen c.args.draft.now c.requires.new) c.in_err-_leaf.ensures.kept)

pub returns-in-NeedBlock-clause-needed : goal.returns-in-NeedBlock-clause-needed
returns-in-NeedBlock-clause-needed g c h shown any =
    let same = seen_old g.V.View.seen c.args.draft.now c.requires.new in
    (h, of_none h, subst (λ w. IsNeededFor w h c.args.name.now c.in-NeedBlock.missing) same (needed_at _ _ _ c.in-NeedBlock.is (c.in_ok-_leaf.ensures.needed h (subst (λ w. IsShown w c.args.dir h) (sym same) shown))))

pub returns-in-NeedBlock-clause-under : goal.returns-in-NeedBlock-clause-under
returns-in-NeedBlock-clause-under g c =
    let v = g.V.View.seen c.args.draft.now.view in
    let w = seen_in g.V.View.seen c.args.draft.now in
    let same = seen_old g.V.View.seen c.args.draft.now c.requires.new in
    let n = c.in-NeedBlock.missing in
    asked_to_go w v c.is_a_view.ensures c.args.dir (subst (λ x. IsDirectoryIn x c.args.dir) (sym same) c.requires.directory) (subst (λ x. HasBlock x c.args.dir) (sym same) c.requires.there) n
    (ap (λ x. x.block_at n.block) (sym same) ∙ needed_at _ _ _ c.in-NeedBlock.is c.in_ok-_leaf.ensures.absent) c.args.name.now (λ h shown. needed_at _ _ _ c.in-NeedBlock.is (c.in_ok-_leaf.ensures.needed h shown))

pub returns-in-Is-clause-lost : goal.returns-in-Is-clause-lost
returns-in-Is-clause-lost g c =
    first_lost g.V.View.seen c.args.draft.now c.remove.new.draft c.args.dir c.args.name.now c.in-Is._leaf c.requires.new
    (answer_at _ _ _ c.in-Is.is c.in_ok-_leaf.ensures.taken) (answer_at _ _ _ c.in-Is.is c.in_ok-_leaf.ensures.two) c.requires.named

pub returns-in-Is-clause-able : goal.returns-in-Is-clause-able
returns-in-Is-clause-able g c h shown sound =
    let two = answer_at _ _ _ c.in-Is.is c.in_ok-_leaf.ensures.two in
    let same = seen_old g.V.View.seen c.args.draft.now c.requires.new in
    let is = first_able g.V.View.seen c.args.draft.now c.remove.new.draft c.args.dir c.args.name.now c.in-Is._leaf c.requires.new
    (answer_at _ _ _ c.in-Is.is c.in_ok-_leaf.ensures.taken) two c.requires.named h shown sound c.requires.directory in
    c.has_directory.ensures.all two.bytes is.0 is.1.0 is.1.1
