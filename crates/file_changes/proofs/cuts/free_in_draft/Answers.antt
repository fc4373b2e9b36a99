use Rattle.std.proofs.Common.{sym, subst}
use Rattle.glock_names.proofs.StepLaws.{answer_at}
use Rattle.resource_groups.specs.Freeing.{AreFreed, BreaksSome}
use Rattle.resource_groups.specs.Putting.{HasDataBlock}
use Rattle.drafts.specs.Fates.{seen_in}
use Rattle.file_changes.proofs.Fresh.{frees_in, none_breaks, seen_over, told_never}
use Rattle.file_changes.proofs.cuts.free_in_draft.Goals as goal

pub free_blocks-requires : goal.free_blocks-requires
free_blocks-requires g c = record { blocks = λ b has. subst (λ w. HasDataBlock w b) (sym (seen_over g.V.View.seen c.args.view.now c.args.draft.now c.requires.over)) (c.requires.inside b has) }

pub returns-in-Ok-Is-clause-frees : goal.returns-in-Ok-Is-clause-frees
returns-in-Ok-Is-clause-frees g c done =
    frees_in g.V.View.seen c.args.view.now c.args.draft.now c.free_blocks.new.draft c.args.freed.now c.requires.over
    (answer_at _ _ (λ done. AreFreed g.V.View.seen c.args.draft.now c.free_blocks.new.draft c.args.freed.now) c.in-Ok-Is.field-0-is c.in-Ok-Is.ensures.freed) c.free_blocks.ensures.rest

pub returns-in-Err-Damaged-clause-sound : goal.returns-in-Err-Damaged-clause-sound
returns-in-Err-Damaged-clause-sound g c im o l t of leaves =
    let v = g.V.View.seen c.args.view.now in
    absurd (told_never (BreaksSome (seen_in g.V.View.seen c.args.draft.now) c.args.freed.now) c.in-Err-Damaged.field-0 _ _ c.in-Err-Damaged.field-0-is c.in-Err-Damaged.ensures.damaged
    (λ r b breaks. none_breaks c.standing_groups_are_sound.ensures v c.args.draft.now.fates im o l t of leaves c.args.freed.now r b
    (subst (λ w. BreaksSome w c.args.freed.now r b) (seen_over g.V.View.seen c.args.view.now c.args.draft.now c.requires.over) breaks)))
