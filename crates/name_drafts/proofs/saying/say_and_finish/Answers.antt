use Rattle.std.proofs.Common.{ℕ, List, [], ◌∷◌, subst}
use Rattle.std.proofs.lemmas.List.Elements.{Contains-append_right}
use Rattle.drafts.specs.Fates.{AreWhole, Drafted, seen_in}
use Rattle.glock_names.specs.Views.{IsOfView}
use Rattle.glock_names.proofs.StepLaws.{answer_at, needed_at}
use Rattle.path_walks.proofs.Faults.{told_on, tells_so}
use Rattle.resource_groups.specs.Freeing.{BreaksSome}
use Rattle.name_drafts.proofs.Faults.{breaks_wide, kept_before, needed_wide, tells_both}
use Rattle.name_drafts.proofs.Said.{breaks_new, has2, needs_new, said_and_done, sees2}
use Rattle.name_drafts.proofs.saying.say_and_finish.Goals as goal

pub take_blocks-requires : goal.take_blocks-requires
take_blocks-requires g c = record {
  blocks = λ b there.
      let is = c.requires.taken b there in (
        is.0,
        has2 g.V.View.seen c.args.draft c.say_new.new.draft c.args.new.now c.in-Is._number (answer_at _ _ _ c.in-Is.is c.in_ok-_number.ensures.said) c.is_a_view.ensures c.requires.group c.requires.block c.requires.groups is.0 is.1,
        is.2,
      );
}

pub returns-in_err-take_blocks-clause-damaged : goal.returns-in_err-take_blocks-clause-damaged
returns-in_err-take_blocks-clause-damaged g c =
    let v = g.V.View.seen c.args.draft.view in
    let all : List ℕ = c.args.new.now.block ∷ c.args.taken.now in
    told_on (BreaksSome v all) _ _ c.from_residual-in_err-take_blocks.ensures.1
    (tells_so (BreaksSome (seen_in g.V.View.seen c.say_new.new.draft) c.args.taken.now) (BreaksSome v all)
    (λ rule b breaks. breaks_wide v c.args.taken.now all rule b (Contains-append_right (c.args.new.now.block ∷ []) c.args.taken.now)
    (breaks_new g.V.View.seen c.args.draft c.say_new.new.draft c.args.new.now c.in-Is._number (answer_at _ _ _ c.in-Is.is c.in_ok-_number.ensures.said) c.is_a_view.ensures c.requires.group c.requires.block c.requires.groups c.args.taken.now rule b breaks))
    c.in_err-take_blocks.field-0.0 c.in_err-take_blocks.ensures.damaged)

pub returns-in_err-take_blocks-clause-kept : goal.returns-in_err-take_blocks-clause-kept
returns-in_err-take_blocks-clause-kept g c =
    let v = g.V.View.seen c.args.draft.view in
    let d2 = c.say_new.new.draft in
    told_on (IsOfView v) _ _ c.from_residual-in_err-take_blocks.ensures.1
    (tells_both (BreaksSome (seen_in g.V.View.seen d2) c.args.taken.now) (IsOfView (seen_in g.V.View.seen d2)) (IsOfView v)
    (λ rule b breaks there.
    kept_before v c.args.draft.fates c.requires.groups c.is_a_view.ensures (seen_in g.V.View.seen d2)
    (sees2 g.V.View.seen c.args.draft d2 c.args.new.now c.in-Is._number (answer_at _ _ _ c.in-Is.is c.in_ok-_number.ensures.said) c.is_a_view.ensures c.requires.group c.requires.block c.requires.groups c.requires.there) c.args.taken.now rule b
    (breaks_new g.V.View.seen c.args.draft d2 c.args.new.now c.in-Is._number (answer_at _ _ _ c.in-Is.is c.in_ok-_number.ensures.said) c.is_a_view.ensures c.requires.group c.requires.block c.requires.groups c.args.taken.now rule b breaks) there)
    c.in_err-take_blocks.field-0.0 c.in_err-take_blocks.ensures.damaged c.in_err-take_blocks.ensures.kept)

pub returns-in-NeedBlock-2-clause-needed : goal.returns-in-NeedBlock-2-clause-needed
returns-in-NeedBlock-2-clause-needed g c =
    let v = g.V.View.seen c.args.draft.view in
    needed_wide v c.args.taken.now (c.args.new.now.block ∷ c.args.taken.now) c.in-NeedBlock-2.missing (Contains-append_right (c.args.new.now.block ∷ []) c.args.taken.now)
    (needs_new g.V.View.seen c.args.draft c.say_new.new.draft c.args.new.now c.in-Is._number (answer_at _ _ _ c.in-Is.is c.in_ok-_number.ensures.said) c.is_a_view.ensures c.requires.group c.requires.block c.requires.groups c.args.taken.now
    c.in-NeedBlock-2.missing (needed_at _ _ _ c.in-NeedBlock-2.is c.in_ok-take_blocks.ensures.needed))

pub returns-clause-said : goal.returns-clause-said
returns-clause-said g c =
    said_and_done g.V.View.seen c.args.draft c.say_new.new.draft c.args.new.now c.in-Is._number (answer_at _ _ _ c.in-Is.is c.in_ok-_number.ensures.said) c.is_a_view.ensures c.requires.group c.requires.block c.requires.groups
    c.take_blocks.new.draft c.args.taken.now (answer_at _ _ _ c.in-Is-2.is c.in_ok-take_blocks.ensures.taken) c.take_blocks.ensures.rest c.in_ok-finish.field-0
    (λ at shown. answer_at _ _ _ c.in-Is.is (c.in_ok-_number.ensures.next at shown))
    (subst (λ (d : Drafted g.row.V.Denot). AreWhole (g.V.View.seen d.view).size d.fates) c.draft-2.view_is c.draft-2.invariant.0)
    (record { blocks = c.in_ok-finish.ensures.blocks; locks = c.in_ok-finish.ensures.locks; freed = c.in_ok-finish.ensures.freed })
