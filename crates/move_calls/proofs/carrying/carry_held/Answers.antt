use Rattle.std.proofs.Common.{◌≢◌, ap, ◌∙◌}
use Rattle.glock_names.proofs.StepLaws.{needed_at}
use Rattle.move_ends.proofs.Faults.{tells_so, told_on}
use Rattle.resource_groups.specs.Freeing.{BreaksSome, IsNeededFor}
use Rattle.room_search.specs.Searches.{IsGroupBroken}
use Rattle.room_search.specs.declared.search.Locked.TheVariants as locked
use Rattle.name_moves.specs.Moving.{freed_by, move_of}
use Rattle.move_calls.specs.Carrying.{IsDamageOf, NeedsBlock}
use Rattle.move_calls.proofs.Room.{block_found, lock_found, room_found, told_asked, too_few_found}
use Rattle.move_calls.proofs.carrying.carry_held.Goals as goal

pub returns-in_err-look_at_freed-clause-damaged : goal.returns-in_err-look_at_freed-clause-damaged
returns-in_err-look_at_freed-clause-damaged g c =
    let v = g.V.View.seen c.args.view.now in
    let m = move_of c.args.m.now in
    told_on (IsDamageOf v c.args.stamp.now.node m) c.from_residual.result _ c.from_residual.ensures.1
    (tells_so (BreaksSome v (freed_by m)) (IsDamageOf v c.args.stamp.now.node m) (λ rule b broken. IsDamageOf.of_freed c.args.need rule b c.requires.counted broken) c.in_err-look_at_freed.field-0.0 c.in_err-look_at_freed.ensures.damaged)

pub returns-in-NeedBlock-clause-carried : goal.returns-in-NeedBlock-clause-carried
returns-in-NeedBlock-clause-carried g c =
    let v = g.V.View.seen c.args.view.now in
    NeedsBlock.of_freed c.args.need c.requires.counted (needed_at _ _ (IsNeededFor v (freed_by (move_of c.args.m.now))) c.in-NeedBlock.is c.in_ok-look_at_freed.ensures.needed)

pub returns-in_err-room-clause-damaged : goal.returns-in_err-room-clause-damaged
returns-in_err-room-clause-damaged g c =
    let v = g.V.View.seen c.args.view.now in
    let m = move_of c.args.m.now in
    let node = c.args.stamp.now.node in
    told_on (IsDamageOf v node m) c.from_residual-in_err-room.result _ c.from_residual-in_err-room.ensures.1
    (tells_so (λ rule b. (c.args.need ≢ 0) × IsGroupBroken v rule b) (IsDamageOf v node m) (λ rule b broken. IsDamageOf.of_room c.args.need rule b c.requires.counted broken.0 broken.1) c.in_err-room.field-0.0
    (told_asked c.args.need (IsGroupBroken v) c.in_err-room.field-0.0 c.in_err-room.ensures.unasked c.in_err-room.ensures.damaged))

pub carry_in-requires-clause-room : goal.carry_in-requires-clause-room
carry_in-requires-clause-room g c = (
  c.args.need,
  room_found (g.V.View.seen c.args.view.now) c.args.stamp.now.node c.args.need (move_of c.args.m.now) c.requires.counted c.in_ok-room.field-0 c.in_ok-room.ensures.found c.in_ok-room.ensures.told
      c.in-Is-Is.room _ c.deref.ensures.value (c.in-Is-Is.is ∙ ap locked.Is c.in-Is-Is.field-0-is),
)

pub returns-in-Is-TooFew-clause-carried : goal.returns-in-Is-TooFew-clause-carried
returns-in-Is-TooFew-clause-carried g c =
    too_few_found (g.V.View.seen c.args.view.now) c.args.stamp.now.node c.args.need (move_of c.args.m.now) c.requires.counted c.in_ok-room.field-0 c.in_ok-room.ensures.found c.in_ok-room.ensures.told
    c.in-Is-TooFew.free c.is_a_view.ensures (c.in-Is-TooFew.is ∙ ap locked.Is c.in-Is-TooFew.field-0-is)

pub returns-in-NeedLock-clause-carried : goal.returns-in-NeedLock-clause-carried
returns-in-NeedLock-clause-carried g c =
    lock_found (g.V.View.seen c.args.view.now) c.args.stamp.now.node c.args.need (move_of c.args.m.now) c.requires.counted c.in_ok-room.field-0 c.in_ok-room.ensures.found c.in_ok-room.ensures.told
    c.in-NeedLock.lock c.in-NeedLock.state c.in-NeedLock.is

pub returns-in-NeedBlock-2-clause-carried : goal.returns-in-NeedBlock-2-clause-carried
returns-in-NeedBlock-2-clause-carried g c =
    block_found (g.V.View.seen c.args.view.now) c.args.stamp.now.node c.args.need (move_of c.args.m.now) c.requires.counted c.in_ok-room.field-0 c.in_ok-room.ensures.found c.in_ok-room.ensures.told
    c.in-NeedBlock-2.missing c.in-NeedBlock-2.is
