use Rattle.std.proofs.Common.{◌≡◌, ◌∙◌, ap, subst, sym}
use Rattle.std.specs.FinMap.{empty, get-empty}
use Rattle.std.specs.Ordering.{nat_cmp}
use Rattle.drafts.specs.Fates.{block_with, seen_in, seen_with}
use Rattle.glock_names.proofs.StepLaws.{answer_at, needed_at}
use Rattle.glock_names.specs.Steps.{TellsOf}
use Rattle.glock_names.specs.Views.{HasBlock, IsOfView, Seen}
use Rattle.linear_dirs.proofs.Looked.{handed}
use Rattle.directories.specs.Shown.{IsBroken, IsDirectoryIn, IsNeededFor, IsShown}
use Rattle.directories.specs.Taking.{HasNameIn}
use Rattle.name_redirects.proofs.redirecting.record_block.Goals as goal

unchanged : (v : Seen) → seen_with v empty ≡ v
unchanged v = λ i. record v { block_at = λ b. ap (λ f. block_with f (v.block_at b)) (get-empty nat_cmp b) i }

pub remove-requires-clause-directory : goal.remove-requires-clause-directory
remove-requires-clause-directory g c =
    let same = ap (seen_in g.V.View.seen) c.new-scratch.ensures ∙ unchanged (g.V.View.seen c.args.view.now) in
    subst (λ (w : Seen). IsDirectoryIn w c.args.dir) (sym same) c.requires.directory

pub remove-requires-clause-named : goal.remove-requires-clause-named
remove-requires-clause-named g c =
    let same = ap (seen_in g.V.View.seen) c.new-scratch.ensures ∙ unchanged (g.V.View.seen c.args.view.now) in
    subst (λ (w : Seen). HasNameIn w c.args.dir c.args.name.now) (sym same) c.requires.named

pub returns-in_err-block-clause-damaged : goal.returns-in_err-block-clause-damaged
returns-in_err-block-clause-damaged g c h shown =
    let same = ap (seen_in g.V.View.seen) c.new-scratch.ensures ∙ unchanged (g.V.View.seen c.args.view.now) in
    handed c.from_residual.result _ (TellsOf (IsBroken (g.V.View.seen c.args.view.now) h)) c.from_residual.ensures.1
    (subst (λ (w : Seen). TellsOf (IsBroken w h) c.in_err-block.field-0.0) same (c.in_err-block.ensures.damaged h (subst (λ (w : Seen). IsShown w c.args.dir h) (sym same) shown)))

pub returns-in_err-block-clause-kept : goal.returns-in_err-block-clause-kept
returns-in_err-block-clause-kept g c =
    let same = ap (seen_in g.V.View.seen) c.new-scratch.ensures ∙ unchanged (g.V.View.seen c.args.view.now) in
    handed c.from_residual.result _ (TellsOf (IsOfView (g.V.View.seen c.args.view.now))) c.from_residual.ensures.1
    (subst (λ (w : Seen). TellsOf (IsOfView w) c.in_err-block.field-0.0) same c.in_err-block.ensures.kept)

pub returns-in-Is-clause-from : goal.returns-in-Is-clause-from
returns-in-Is-clause-from g c h shown =
    let same = ap (seen_in g.V.View.seen) c.new-scratch.ensures ∙ unchanged (g.V.View.seen c.args.view.now) in
    (answer_at _ _ _ c.in-Is.is c.in_ok-block.ensures.taken).from h (subst (λ (w : Seen). IsShown w c.args.dir h) (sym same) shown)

pub returns-in-Is-clause-there : goal.returns-in-Is-clause-there
returns-in-Is-clause-there g c =
    let same = ap (seen_in g.V.View.seen) c.new-scratch.ensures ∙ unchanged (g.V.View.seen c.args.view.now) in
    subst (λ (w : Seen). HasBlock w c.in-Is.block) same (answer_at _ _ _ c.in-Is.is c.in_ok-block.ensures.two).leaf_there

pub returns-clause-needed : goal.returns-clause-needed
returns-clause-needed g c h shown =
    let same = ap (seen_in g.V.View.seen) c.new-scratch.ensures ∙ unchanged (g.V.View.seen c.args.view.now) in
    subst (λ (w : Seen). IsNeededFor w h c.args.name.now c.in-NeedBlock.missing) same (needed_at _ _ _ c.in-NeedBlock.is (c.in_ok-block.ensures.needed h (subst (λ (w : Seen). IsShown w c.args.dir h) (sym same) shown)))
