use Rattle.std.proofs.Common.{sym, ap, ◌∙◌, subst}
use Rattle.drafts.specs.Fates.{seen_in}
use Rattle.gfs2_layout.specs.Holding.{Holding}
use Rattle.gfs2_layout.proofs.StatePuts.{has_any}
use Rattle.hash_dirs.proofs.Gathered.{lacks_it}
use Rattle.glock_names.proofs.StepLaws.{answer_at, answer_so, needed_at, needed_so}
use Rattle.glock_names.specs.Steps.{TellsOf}
use Rattle.glock_names.specs.Views.{IsOfView}
use Rattle.directories.specs.Shown as dirs
use Rattle.resource_groups.specs.Freeing.{BreaksSome}
use Rattle.removing_calls.specs.Drafting.{IsNameTaken, IsNeededIn, IsWrongIn, shared}
use Rattle.removing_calls.specs.Drafting as drafting
use Rattle.removing_calls.proofs.Taken.{inside_then, needed_of, breaks_of, kept_of, removal_of}
use Rattle.removing_calls.proofs.drafting.removal.Goals as goal
use Rattle.path_walks.proofs.Faults.{told_on, tells_so, tells_each, damaged_so}

pub returns-in_err-leaf-clause-damaged : goal.returns-in_err-leaf-clause-damaged
returns-in_err-leaf-clause-damaged g c =
    let v = g.V.View.seen c.args.view.now in
    let over = ap (λ d. d.view) c.new-draft.ensures in
    told_on (IsWrongIn v c.args.dir c.args.name.now c.args.blocks.now) c.from_residual.result _ c.from_residual.ensures.1
    (tells_so (λ rule b. (h : Holding) → dirs.IsShown v c.args.dir h → dirs.IsBroken v h rule b) (IsWrongIn v c.args.dir c.args.name.now c.args.blocks.now) drafting.IsWrongIn.in_directory c.in_err-leaf.field-0.0
    (tells_each (dirs.IsShown v c.args.dir) (dirs.IsBroken v) c.in_err-leaf.field-0.0 (λ h shown. subst (λ x. TellsOf (dirs.IsBroken (g.V.View.seen x) h) c.in_err-leaf.field-0.0) over
    (c.in_err-leaf.ensures.damaged h (subst (λ x. dirs.IsShown (g.V.View.seen x) c.args.dir h) (sym over) shown)))))

pub returns-in_err-leaf-clause-kept : goal.returns-in_err-leaf-clause-kept
returns-in_err-leaf-clause-kept g c =
    told_on (IsOfView (g.V.View.seen c.args.view.now)) c.from_residual.result _ c.from_residual.ensures.1
    (subst (λ x. TellsOf (IsOfView (g.V.View.seen x)) c.in_err-leaf.field-0.0) (ap (λ d. d.view) c.new-draft.ensures) c.in_err-leaf.ensures.kept)

pub returns-in-NeedBlock-clause-needed : goal.returns-in-NeedBlock-clause-needed
returns-in-NeedBlock-clause-needed g c =
    let over = ap (λ d. d.view) c.new-draft.ensures in
    drafting.IsNeededIn.in_directory
    (λ h shown. subst (λ x. dirs.IsNeededFor (g.V.View.seen x) h c.args.name.now c.in-NeedBlock.missing) over
    (needed_at _ _ _ c.in-NeedBlock.is (c.in_ok-leaf.ensures.needed h (subst (λ x. dirs.IsShown (g.V.View.seen x) c.args.dir h) (sym over) shown))))
    (ap (λ x. (g.V.View.seen x).block_at c.in-NeedBlock.missing.block) (sym over) ∙ needed_at _ _ _ c.in-NeedBlock.is c.in_ok-leaf.ensures.absent)

pub returns-then-contains-clause-damaged : goal.returns-then-contains-clause-damaged
returns-then-contains-clause-damaged g c =
    let over = ap (λ d. d.view) c.new-draft.ensures in
    let taken = subst (λ x. IsNameTaken (g.V.View.seen x) c.args.dir c.args.name.now c.args.time c.in-Is.leaf c.take_name.new.draft.fates) over (answer_at _ _ _ c.in-Is.is c.in_ok-leaf.ensures.taken) in
    shared c.in-Is.leaf taken.taken.from (has_any c.args.blocks.now c.in-Is.leaf (sym c.contains.ensures.value ∙ c.if-contains.true))

pub returns-then-contains-clause-kept : goal.returns-then-contains-clause-kept
returns-then-contains-clause-kept g c =
    let over = ap (λ d. d.view) c.new-draft.ensures in
    let taken = subst (λ x. IsNameTaken (g.V.View.seen x) c.args.dir c.args.name.now c.args.time c.in-Is.leaf c.take_name.new.draft.fates) over (answer_at _ _ _ c.in-Is.is c.in_ok-leaf.ensures.taken) in
    taken.leaf_there

pub free_and_finish-requires : goal.free_and_finish-requires
free_and_finish-requires g c b has =
    let over = ap (λ d. d.view) c.new-draft.ensures in
    let same = answer_at _ _ _ c.in-Is.is c.in_ok-leaf.ensures.view ∙ over in
    let taken = subst (λ x. IsNameTaken (g.V.View.seen x) c.args.dir c.args.name.now c.args.time c.in-Is.leaf c.take_name.new.draft.fates) over (answer_at _ _ _ c.in-Is.is c.in_ok-leaf.ensures.taken) in
    inside_then g.V.View.seen c.args.view.now c.take_name.new.draft same c.args.dir c.args.name.now c.args.time c.in-Is.leaf taken b (c.requires.blocks b has)

pub returns-clause-removal : goal.returns-clause-removal
returns-clause-removal g c =
    let over = ap (λ d. d.view) c.new-draft.ensures in
    let same = answer_at _ _ _ c.in-Is.is c.in_ok-leaf.ensures.view ∙ over in
    let taken = subst (λ x. IsNameTaken (g.V.View.seen x) c.args.dir c.args.name.now c.args.time c.in-Is.leaf c.take_name.new.draft.fates) over (answer_at _ _ _ c.in-Is.is c.in_ok-leaf.ensures.taken) in
    answer_so c.free_and_finish.result _ _ (removal_of g.V.View.seen c.args.view.now c.take_name.new.draft same c.args.dir c.args.name.now c.args.time c.in-Is.leaf taken c.is_a_view.ensures c.requires.inside c.args.blocks.now c.requires.apart
    (lacks_it c.args.blocks.now c.in-Is.leaf c.contains.result c.contains.ensures.value c.if-contains.false)) c.free_and_finish.ensures.freed

pub returns-clause-needed : goal.returns-clause-needed
returns-clause-needed g c =
    let over = ap (λ d. d.view) c.new-draft.ensures in
    let same = answer_at _ _ _ c.in-Is.is c.in_ok-leaf.ensures.view ∙ over in
    let taken = subst (λ x. IsNameTaken (g.V.View.seen x) c.args.dir c.args.name.now c.args.time c.in-Is.leaf c.take_name.new.draft.fates) over (answer_at _ _ _ c.in-Is.is c.in_ok-leaf.ensures.taken) in
    needed_so c.free_and_finish.result _ (IsNeededIn (g.V.View.seen c.args.view.now) c.args.dir c.args.name.now c.args.blocks.now)
    (λ m needed. drafting.IsNeededIn.in_group (needed_of g.V.View.seen c.args.view.now c.take_name.new.draft same c.args.dir c.args.name.now c.args.time c.in-Is.leaf taken c.args.blocks.now m needed))
    c.free_and_finish.ensures.needed

pub returns-clause-damaged : goal.returns-clause-damaged
returns-clause-damaged g c =
    let v = g.V.View.seen c.args.view.now in
    let over = ap (λ d. d.view) c.new-draft.ensures in
    let same = answer_at _ _ _ c.in-Is.is c.in_ok-leaf.ensures.view ∙ over in
    let taken = subst (λ x. IsNameTaken (g.V.View.seen x) c.args.dir c.args.name.now c.args.time c.in-Is.leaf c.take_name.new.draft.fates) over (answer_at _ _ _ c.in-Is.is c.in_ok-leaf.ensures.taken) in
    damaged_so (BreaksSome (seen_in g.V.View.seen c.take_name.new.draft) c.args.blocks.now) (IsWrongIn v c.args.dir c.args.name.now c.args.blocks.now)
    (λ rule b breaks. drafting.IsWrongIn.in_group rule b (breaks_of g.V.View.seen c.args.view.now c.take_name.new.draft same c.args.dir c.args.name.now c.args.time c.in-Is.leaf taken c.is_a_view.ensures c.requires.inside c.args.blocks.now rule b breaks))
    c.free_and_finish.result c.free_and_finish.ensures.damaged

pub returns-clause-kept : goal.returns-clause-kept
returns-clause-kept g c =
    let v = g.V.View.seen c.args.view.now in
    let over = ap (λ d. d.view) c.new-draft.ensures in
    let same = answer_at _ _ _ c.in-Is.is c.in_ok-leaf.ensures.view ∙ over in
    let taken = subst (λ x. IsNameTaken (g.V.View.seen x) c.args.dir c.args.name.now c.args.time c.in-Is.leaf c.take_name.new.draft.fates) over (answer_at _ _ _ c.in-Is.is c.in_ok-leaf.ensures.taken) in
    damaged_so (IsOfView (seen_in g.V.View.seen c.take_name.new.draft)) (IsOfView v)
    (λ rule b. kept_of g.V.View.seen c.args.view.now c.take_name.new.draft same c.args.dir c.args.name.now c.args.time c.in-Is.leaf taken b)
    c.free_and_finish.result c.free_and_finish.ensures.kept
