use Rattle.std.proofs.Common.{◌++◌, subst}
use Rattle.std.specs.Prelude.{IsSome}
use Rattle.glock_names.specs.Steps.{TellsOf}
use Rattle.glock_names.proofs.StepLaws.{answer_at, needed_at}
use Rattle.name_moves.specs.Moving.{IsNeededIn, IsWrongIn, freed_by, move_of}
use Rattle.move_calls.specs.Carrying.{IsDamageOf, IsStuck, NeedsBlock}
use Rattle.move_calls.proofs.Gone.{astray, stuck_in, within}
use Rattle.move_calls.proofs.looking.draft_in.Goals.{else-gone-via-then-gone+else-not-is_in_groups, else-gone-via-else-gone}
use Rattle.move_calls.proofs.looking.draft_in.Goals as goal

pub moving-requires-clause-apart : goal.moving-requires-clause-apart
moving-requires-clause-apart g c b there place = c.requires.off.apart b there place

pub returns-in-Ok-Is-clause-stuck : goal.returns-in-Ok-Is-clause-stuck
returns-in-Ok-Is-clause-stuck g c node need has =
    stuck_in (g.V.View.seen c.args.view.now) node (move_of c.args.m.now) need c.args.room.now has c.requires.off c.in-Ok-Is.change
    (λ source target inode apart. answer_at c.in-Ok-Is.field-0 c.in-Ok-Is.change IsSome c.in-Ok-Is.field-0-is (c.in-Ok-Is.ensures.able source target inode apart))

pub returns-then-not-is_in_groups-clause-stuck : goal.returns-then-not-is_in_groups-clause-stuck
returns-then-not-is_in_groups-clause-stuck g c node need has =
    let v = g.V.View.seen c.args.view.now in
    let m = move_of c.args.m.now in
    let blocks = c.args.room.now ++ freed_by m in
    astray v node m c.in-Ok-NeedBlock.missing (c.loses_names-gone.ensures.some c.if-gone.true) blocks
    (needed_at _ _ (IsNeededIn v m blocks) c.in-Ok-NeedBlock.field-0-is c.in-Ok-NeedBlock.ensures.needed) (c.is_in_groups.ensures.astray c.if-not-is_in_groups.true)

pub returns-then-gone-2-clause-stuck : goal.returns-then-gone-2-clause-stuck
returns-then-gone-2-clause-stuck g c node need has =
    let v = g.V.View.seen c.args.view.now in
    let m = move_of c.args.m.now in
    let blocks = c.args.room.now ++ freed_by m in
    IsStuck.drafts_wrong need c.args.room.now c.in-Err-Damaged.rule c.in-Err-Damaged.block has (c.loses_names-gone.ensures.some c.if-gone-2.true)
    (subst (TellsOf (IsWrongIn v m blocks)) c.in-Err-Damaged.field-0-is c.in-Err-Damaged.ensures.damaged)

pub returns-else-gone-clause-needed : goal.returns-else-gone-clause-needed
returns-else-gone-clause-needed g c node need has =
    let v = g.V.View.seen c.args.view.now in
    let m = move_of c.args.m.now in
    let blocks = c.args.room.now ++ freed_by m in
    let needed : IsNeededIn v m blocks c.in-Ok-NeedBlock.missing = needed_at _ _ (IsNeededIn v m blocks) c.in-Ok-NeedBlock.field-0-is c.in-Ok-NeedBlock.ensures.needed in
    elim c.else-gone.branch [
      | else-gone-via-then-gone+else-not-is_in_groups w ↦
          within v node m c.in-Ok-NeedBlock.missing (c.loses_names-gone.ensures.some w.if-gone.true) blocks (λ some. NeedsBlock.to_say need c.args.room.now has some) needed
          (w.is_in_groups.ensures.within w.if-not-is_in_groups.false)
      | else-gone-via-else-gone w ↦ NeedsBlock.to_draft need c.args.room.now has (c.loses_names-gone.ensures.none w.if-gone.false) needed
    ]

pub returns-else-gone-2-clause-damaged : goal.returns-else-gone-2-clause-damaged
returns-else-gone-2-clause-damaged g c node need has =
    let v = g.V.View.seen c.args.view.now in
    let m = move_of c.args.m.now in
    IsDamageOf.to_draft need c.args.room.now c.in-Err-Damaged.rule c.in-Err-Damaged.block has (c.loses_names-gone.ensures.none c.if-gone-2.false)
    (subst (TellsOf (IsWrongIn v m (c.args.room.now ++ freed_by m))) c.in-Err-Damaged.field-0-is c.in-Err-Damaged.ensures.damaged)
