use Rattle.std.proofs.Common.{sym, subst}
use Rattle.glock_names.specs.Steps.{TellsOf}
use Rattle.glock_names.proofs.StepLaws.{answer_at}
use Rattle.resource_groups.specs.Freeing.{BreaksSome}
use Rattle.resource_groups.specs.Putting.{HasDataBlock}
use Rattle.resource_groups.specs.Taking.{AreTaken}
use Rattle.file_changes.proofs.Fresh.{none_breaks, seen_over}
use Rattle.file_changes.proofs.Stepping.{takes_in}
use Rattle.file_changes.proofs.writes.take_room.Goals as goal

pub take_blocks-requires : goal.take_blocks-requires
take_blocks-requires g c = record { blocks = λ b has. subst (λ x. HasDataBlock (g.V.View.seen x) b) (sym c.requires.over) (c.requires.inside b has) }

pub returns-in-Ok-Is-clause-taken : goal.returns-in-Ok-Is-clause-taken
returns-in-Ok-Is-clause-taken g c done =
    takes_in g.V.View.seen c.args.view.now c.args.draft.now c.take_blocks.new.draft c.args.room.now c.requires.over
    (answer_at c.in-Ok-Is.field-0 c.in-Ok-Is.field-0-0 (λ done. AreTaken g.V.View.seen c.args.draft.now c.take_blocks.new.draft c.args.room.now) c.in-Ok-Is.field-0-is c.in-Ok-Is.ensures.taken) c.in-Ok-Is.ensures.rest

pub returns-in-Err-Damaged-clause-sound : goal.returns-in-Err-Damaged-clause-sound
returns-in-Err-Damaged-clause-sound g c im o l t of leaves =
    let v = g.V.View.seen c.args.view.now in
    absurd (none_breaks c.standing_groups_are_sound.ensures v c.args.draft.now.fates im o l t of leaves c.args.room.now c.in-Err-Damaged.field-0-1 c.in-Err-Damaged.field-0-0
    (subst (λ w. BreaksSome w c.args.room.now c.in-Err-Damaged.field-0-1 c.in-Err-Damaged.field-0-0) (seen_over g.V.View.seen c.args.view.now c.args.draft.now c.requires.over)
    (subst (TellsOf (BreaksSome _ c.args.room.now)) c.in-Err-Damaged.field-0-is c.in-Err-Damaged.ensures.damaged)))
