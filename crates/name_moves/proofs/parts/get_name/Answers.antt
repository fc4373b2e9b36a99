use Rattle.std.proofs.Common.{◌≡◌, true, false, true≢false, sym, ◌∙◌, subst}
use Rattle.glock_names.proofs.StepLaws.{answer_at, needed_at}
use Rattle.glock_names.specs.Steps.{IfDamaged}
use Rattle.name_drafts.proofs.WalkFaults.{told_on}
use Rattle.resource_groups.specs.Putting.{HasDataBlock}
use Rattle.name_moves.specs.Becoming.{of_sound}
use Rattle.name_moves.specs.Moving.{IsWrongThere, move_of}
use Rattle.name_moves.proofs.parts.get_name.Goals as goal

pub returns-in_err-lose_names-clause-damaged : goal.returns-in_err-lose_names-clause-damaged
returns-in_err-lose_names-clause-damaged g c =
    told_on (IsWrongThere (g.V.View.seen c.args.draft.now.view) (move_of c.args.m.now)) _ _ c.from_residual.ensures.1 c.in_err-lose_names.ensures.damaged

pub returns-in-NeedBlock-clause-needed : goal.returns-in-NeedBlock-clause-needed
returns-in-NeedBlock-clause-needed g c = needed_at _ _ _ c.in-NeedBlock.is c.in_ok-lose_names.ensures.needed

pub returns-in-Is-false-clause-able : goal.returns-in-Is-false-clause-able
returns-in-Is-false-clause-able g c h shown sound can =
    let no : false ≡ true = sym c.in-Is-false.field-0-test ∙ answer_at _ _ _ c.in-Is-false.is (c.in_ok-lose_names.ensures.able h shown (of_sound sound)) in
    absurd (true≢false (sym no))

pub put_new-requires-clause-room : goal.put_new-requires-clause-room
put_new-requires-clause-room g c b there = subst (λ x. HasDataBlock (g.V.View.seen x) b) (sym (answer_at _ _ _ c.in-Is-true.is c.in_ok-lose_names.ensures.view)) (c.requires.room b there)

pub returns-clause-damaged : goal.returns-clause-damaged
returns-clause-damaged g c =
    subst (λ x. IfDamaged c.put_new.result (IsWrongThere (g.V.View.seen x) (move_of c.args.m.now))) (answer_at _ _ _ c.in-Is-true.is c.in_ok-lose_names.ensures.view) c.put_new.ensures.damaged
