use Rattle.std.proofs.Common.{refl, sym, subst}
use Rattle.glock_names.proofs.StepLaws.{answer_at, needed_at}
use Rattle.glock_names.specs.Steps.{TellsOf}
use Rattle.glock_names.specs.Views.{IsOfView, IsView}
use Rattle.directories.specs.Shown as dirs
use Rattle.directories.specs.Taking.{HasNameIn}
use Rattle.removing_calls.proofs.Taken.{headed, last_view, name_taken, needed_absent, seen_old, sees_put}
use Rattle.removing_calls.proofs.drafting.take_name.Goals as goal
use Rattle.path_walks.proofs.Faults.{told_on}

pub remove-requires-clause-directory : goal.remove-requires-clause-directory
remove-requires-clause-directory g c = subst (λ w. dirs.IsDirectoryIn w c.args.dir) (sym (seen_old g.V.View.seen c.args.draft.now c.requires.new)) c.requires.directory

pub remove-requires-clause-named : goal.remove-requires-clause-named
remove-requires-clause-named g c = subst (λ w. HasNameIn w c.args.dir c.args.name.now) (sym (seen_old g.V.View.seen c.args.draft.now c.requires.new)) c.requires.named

pub returns-in_err-leaf-clause-damaged : goal.returns-in_err-leaf-clause-damaged
returns-in_err-leaf-clause-damaged g c h shown =
    let v = g.V.View.seen c.args.draft.now.view in
    let same = seen_old g.V.View.seen c.args.draft.now c.requires.new in
    told_on (dirs.IsBroken v h) _ _ c.from_residual.ensures.1
    (subst (λ w. TellsOf (dirs.IsBroken w h) c.in_err-leaf.field-0.0) same (c.in_err-leaf.ensures.damaged h (subst (λ w. dirs.IsShown w c.args.dir h) (sym same) shown)))

pub returns-in_err-leaf-clause-kept : goal.returns-in_err-leaf-clause-kept
returns-in_err-leaf-clause-kept g c =
    told_on (IsOfView (g.V.View.seen c.args.draft.now.view)) _ _ c.from_residual.ensures.1
    (subst (λ w. TellsOf (IsOfView w) c.in_err-leaf.field-0.0) (seen_old g.V.View.seen c.args.draft.now c.requires.new) c.in_err-leaf.ensures.kept)

pub returns-in-NeedBlock-clause-needed : goal.returns-in-NeedBlock-clause-needed
returns-in-NeedBlock-clause-needed g c h shown =
    let same = seen_old g.V.View.seen c.args.draft.now c.requires.new in
    subst (λ w. dirs.IsNeededFor w h c.args.name.now c.in-NeedBlock.missing) same (needed_at _ _ _ c.in-NeedBlock.is (c.in_ok-leaf.ensures.needed h (subst (λ w. dirs.IsShown w c.args.dir h) (sym same) shown)))

pub returns-in-NeedBlock-clause-absent : goal.returns-in-NeedBlock-clause-absent
returns-in-NeedBlock-clause-absent g c =
    let same = seen_old g.V.View.seen c.args.draft.now c.requires.new in
    needed_absent same c.in-NeedBlock.missing.block (needed_at _ _ _ c.in-NeedBlock.is c.in_ok-leaf.ensures.absent)

pub stamp-requires-clause-there : goal.stamp-requires-clause-there
stamp-requires-clause-there g c =
    let two = answer_at _ _ _ c.in-Is.is c.in_ok-leaf.ensures.two in
    (two.bytes, sees_put g.V.View.seen c.args.draft.now c.requires.new c.remove.new.draft c.args.dir c.in-Is.leaf two)

pub stamp-requires-clause-headed : goal.stamp-requires-clause-headed
stamp-requires-clause-headed g c bytes there =
    let two = answer_at _ _ _ c.in-Is.is c.in_ok-leaf.ensures.two in
    headed g.V.View.seen c.args.draft.now c.requires.new c.remove.new.draft c.args.dir c.in-Is.leaf two bytes there

pub returns-clause-taken : goal.returns-clause-taken
returns-clause-taken g c =
    let two = answer_at _ _ _ c.in-Is.is c.in_ok-leaf.ensures.two in
    let there = sees_put g.V.View.seen c.args.draft.now c.requires.new c.remove.new.draft c.args.dir c.in-Is.leaf two in
    name_taken g.V.View.seen c.args.draft.now c.requires.new c.remove.new.draft c.stamp.new.draft c.args.dir c.args.name.now c.args.time c.in-Is.leaf
    (subst IsView (seen_old g.V.View.seen c.args.draft.now c.requires.new) c.is_a_view.ensures) (answer_at _ _ _ c.in-Is.is c.in_ok-leaf.ensures.taken) two (λ h shown. c.in_ok-stamp.ensures.touched h shown) _ refl
    (c.in_ok-stamp.ensures.put two.bytes there) (c.in_ok-stamp.ensures.read two.bytes there) (c.in_ok-stamp.ensures.behind two.bytes there) c.requires.named

pub returns-clause-view : goal.returns-clause-view
returns-clause-view g c =
    let two = answer_at _ _ _ c.in-Is.is c.in_ok-leaf.ensures.two in
    let there = sees_put g.V.View.seen c.args.draft.now c.requires.new c.remove.new.draft c.args.dir c.in-Is.leaf two in
    last_view g.V.View.seen c.args.draft.now c.requires.new c.remove.new.draft c.stamp.new.draft c.args.dir c.args.name.now c.args.time c.in-Is.leaf
    (subst IsView (seen_old g.V.View.seen c.args.draft.now c.requires.new) c.is_a_view.ensures) (answer_at _ _ _ c.in-Is.is c.in_ok-leaf.ensures.taken) two (λ h shown. c.in_ok-stamp.ensures.touched h shown) _ refl
    (c.in_ok-stamp.ensures.put two.bytes there) (c.in_ok-stamp.ensures.read two.bytes there) (c.in_ok-stamp.ensures.behind two.bytes there)
