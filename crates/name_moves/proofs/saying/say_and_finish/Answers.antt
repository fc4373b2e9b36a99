use Rattle.std.proofs.Common.{ℕ, List, ◌++◌, subst}
use Rattle.std.proofs.lemmas.List.Elements.{Contains-append_left, Contains-append_right}
use Rattle.drafts.specs.Fates.{AreWhole, Drafted, seen_in}
use Rattle.glock_names.specs.Views.{IsOfView}
use Rattle.glock_names.proofs.StepLaws.{answer_at, needed_at}
use Rattle.name_drafts.proofs.WalkFaults.{told_on, tells_so}
use Rattle.resource_groups.specs.Freeing.{BreaksSome}
use Rattle.name_drafts.proofs.Faults.{breaks_before, breaks_wide, kept_before, needed_before, needed_wide, sees_below, tells_both}
use Rattle.name_moves.proofs.Said.{breaks_taken, has1, kept_taken, needs_taken, said_and_done}
use Rattle.name_moves.proofs.saying.say_and_finish.Goals as goal

pub returns-in_err-take_blocks-clause-damaged : goal.returns-in_err-take_blocks-clause-damaged
returns-in_err-take_blocks-clause-damaged g c =
    let v = g.V.View.seen c.args.draft.view in
    let all : List ℕ = c.args.taken.now ++ c.args.freed.now in
    told_on (BreaksSome v all) _ _ c.from_residual.ensures.1
    (tells_so (BreaksSome (seen_in g.V.View.seen c.args.draft) c.args.taken.now) (BreaksSome v all)
    (λ rule b breaks. breaks_wide v c.args.taken.now all rule b (Contains-append_left c.args.taken.now c.args.freed.now) (breaks_before v c.args.draft.fates c.requires.groups c.args.taken.now rule b breaks))
    c.in_err-take_blocks.field-0.0 c.in_err-take_blocks.ensures.damaged)

pub returns-in_err-take_blocks-clause-kept : goal.returns-in_err-take_blocks-clause-kept
returns-in_err-take_blocks-clause-kept g c =
    let v = g.V.View.seen c.args.draft.view in
    let w = seen_in g.V.View.seen c.args.draft in
    told_on (IsOfView v) _ _ c.from_residual.ensures.1
    (tells_both (BreaksSome w c.args.taken.now) (IsOfView w) (IsOfView v)
    (λ rule b breaks there. kept_before v c.args.draft.fates c.requires.groups c.is_a_view.ensures w (sees_below v c.args.draft.fates c.requires.groups) c.args.taken.now rule b
    (breaks_before v c.args.draft.fates c.requires.groups c.args.taken.now rule b breaks) there)
    c.in_err-take_blocks.field-0.0 c.in_err-take_blocks.ensures.damaged c.in_err-take_blocks.ensures.kept)

pub returns-in-NeedBlock-clause-needed : goal.returns-in-NeedBlock-clause-needed
returns-in-NeedBlock-clause-needed g c =
    let v = g.V.View.seen c.args.draft.view in
    needed_wide v c.args.taken.now (c.args.taken.now ++ c.args.freed.now) c.in-NeedBlock.missing (Contains-append_left c.args.taken.now c.args.freed.now)
    (needed_before v c.args.draft.fates c.args.taken.now c.in-NeedBlock.missing (needed_at _ _ _ c.in-NeedBlock.is c.in_ok-take_blocks.ensures.needed))

pub free_blocks-requires : goal.free_blocks-requires
free_blocks-requires g c = record {
  blocks = λ b there.
      let is = c.requires.freed b there in (
        is.0,
        has1 g.V.View.seen c.args.draft c.take_blocks.new.draft c.args.taken.now (answer_at _ _ _ c.in-Is.is c.in_ok-take_blocks.ensures.taken) c.take_blocks.ensures.rest c.is_a_view.ensures c.is_a_view-2.ensures c.requires.groups is.0 is.1,
        is.2,
      );
}

pub returns-in_err-free_blocks-clause-damaged : goal.returns-in_err-free_blocks-clause-damaged
returns-in_err-free_blocks-clause-damaged g c =
    let v = g.V.View.seen c.args.draft.view in
    let all : List ℕ = c.args.taken.now ++ c.args.freed.now in
    told_on (BreaksSome v all) _ _ c.from_residual-in_err-free_blocks.ensures.1
    (tells_so (BreaksSome (seen_in g.V.View.seen c.take_blocks.new.draft) c.args.freed.now) (BreaksSome v all)
    (λ rule b breaks. breaks_wide v c.args.freed.now all rule b (Contains-append_right c.args.taken.now c.args.freed.now)
    (breaks_taken g.V.View.seen c.args.draft c.take_blocks.new.draft c.args.taken.now (answer_at _ _ _ c.in-Is.is c.in_ok-take_blocks.ensures.taken) c.take_blocks.ensures.rest c.is_a_view.ensures c.is_a_view-2.ensures c.requires.groups c.args.freed.now rule b breaks))
    c.in_err-free_blocks.field-0.0 c.in_err-free_blocks.ensures.damaged)

pub returns-in_err-free_blocks-clause-kept : goal.returns-in_err-free_blocks-clause-kept
returns-in_err-free_blocks-clause-kept g c =
    let v = g.V.View.seen c.args.draft.view in
    let d1 = c.take_blocks.new.draft in
    let takes = answer_at _ _ _ c.in-Is.is c.in_ok-take_blocks.ensures.taken in
    told_on (IsOfView v) _ _ c.from_residual-in_err-free_blocks.ensures.1
    (tells_both (BreaksSome (seen_in g.V.View.seen d1) c.args.freed.now) (IsOfView (seen_in g.V.View.seen d1)) (IsOfView v)
    (λ rule b breaks there. kept_taken g.V.View.seen c.args.draft d1 c.args.taken.now takes c.take_blocks.ensures.rest c.is_a_view.ensures c.is_a_view-2.ensures c.requires.groups c.args.freed.now rule b
    (breaks_taken g.V.View.seen c.args.draft d1 c.args.taken.now takes c.take_blocks.ensures.rest c.is_a_view.ensures c.is_a_view-2.ensures c.requires.groups c.args.freed.now rule b breaks) there)
    c.in_err-free_blocks.field-0.0 c.in_err-free_blocks.ensures.damaged c.in_err-free_blocks.ensures.kept)

pub returns-in-NeedBlock-2-clause-needed : goal.returns-in-NeedBlock-2-clause-needed
returns-in-NeedBlock-2-clause-needed g c =
    let v = g.V.View.seen c.args.draft.view in
    needed_wide v c.args.freed.now (c.args.taken.now ++ c.args.freed.now) c.in-NeedBlock-2.missing (Contains-append_right c.args.taken.now c.args.freed.now)
    (needs_taken g.V.View.seen c.args.draft c.take_blocks.new.draft c.args.taken.now (answer_at _ _ _ c.in-Is.is c.in_ok-take_blocks.ensures.taken) c.take_blocks.ensures.rest c.is_a_view.ensures c.is_a_view-2.ensures c.requires.groups c.args.freed.now
    c.in-NeedBlock-2.missing (needed_at _ _ _ c.in-NeedBlock-2.is c.in_ok-free_blocks.ensures.needed))

pub returns-clause-said : goal.returns-clause-said
returns-clause-said g c =
    said_and_done g.V.View.seen c.args.draft c.take_blocks.new.draft c.args.taken.now (answer_at _ _ _ c.in-Is.is c.in_ok-take_blocks.ensures.taken) c.take_blocks.ensures.rest c.is_a_view.ensures c.is_a_view-2.ensures c.requires.groups
    c.free_blocks.new.draft c.args.freed.now (answer_at _ _ _ c.in-Is-2.is c.in_ok-free_blocks.ensures.freed) c.free_blocks.ensures.rest c.in_ok-finish.field-0
    (subst (λ (d : Drafted g.row.V.Denot). AreWhole (g.V.View.seen d.view).size d.fates) c.draft-2.view_is c.draft-2.invariant.0)
    (record { blocks = c.in_ok-finish.ensures.blocks; locks = c.in_ok-finish.ensures.locks; freed = c.in_ok-finish.ensures.freed })
