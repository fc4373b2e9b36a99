use Rattle.std.proofs.Common.{◌≡◌, false, true, refl}
use Rattle.std.specs.Prelude.{IfNone}
use Rattle.glock_names.proofs.StepLaws.{answer_at, needed_at}
use Rattle.hash_dirs.proofs.Leaves.{found_at}
use Rattle.move_ends.proofs.Faults.{told_on}
use Rattle.name_moves.specs.Moving.{IsMoving, move_of}
use Rattle.move_calls.specs.Carrying.{IsDamageOf, IsOffWay, IsStuck, NeedsBlock}
use Rattle.move_calls.specs.Checks.{IsNeededOnWays}
use Rattle.move_calls.proofs.Room.{at_none, room_inside, room_once}
use Rattle.move_calls.proofs.carrying.carry_in.Goals as goal

pub returns-in_err-check_room-clause-damaged : goal.returns-in_err-check_room-clause-damaged
returns-in_err-check_room-clause-damaged g c =
    told_on (IsDamageOf (g.V.View.seen c.args.view.now) c.args.stamp.now.node (move_of c.args.m.now)) c.from_residual.result _ c.from_residual.ensures.1
    (c.in_err-check_room.ensures.damaged c.args.stamp.now.node c.requires.room.0 c.requires.room.1)

pub returns-in-NeedBlock-clause-carried : goal.returns-in-NeedBlock-clause-carried
returns-in-NeedBlock-clause-carried g c =
    NeedsBlock.on_way c.requires.room.0 c.args.room.now c.requires.room.1 (needed_at _ _ (IsNeededOnWays (g.V.View.seen c.args.view.now) (move_of c.args.m.now)) c.in-NeedBlock.is c.in_ok-check_room.ensures.needed)

pub draft_in-requires-clause-room : goal.draft_in-requires-clause-room
draft_in-requires-clause-room g c = room_inside (g.V.View.seen c.args.view.now) c.args.stamp.now.node c.requires.room.0 (move_of c.args.m.now) c.args.room.now c.requires.room.1

pub draft_in-requires-clause-once : goal.draft_in-requires-clause-once
draft_in-requires-clause-once g c = room_once (g.V.View.seen c.args.view.now) c.args.stamp.now.node c.requires.room.0 (move_of c.args.m.now) c.args.room.now c.requires.room.1

pub draft_in-requires-clause-off : goal.draft_in-requires-clause-off
draft_in-requires-clause-off g c = answer_at _ _ (λ off. off ≡ true → IsOffWay (g.V.View.seen c.args.view.now) (move_of c.args.m.now) c.args.room.now) c.in-Is-true.is c.in_ok-check_room.ensures.off c.in-Is-true.field-0-test

pub returns-in_err-change-clause-damaged : goal.returns-in_err-change-clause-damaged
returns-in_err-change-clause-damaged g c =
    told_on (IsDamageOf (g.V.View.seen c.args.view.now) c.args.stamp.now.node (move_of c.args.m.now)) c.from_residual-in_err-change.result _ c.from_residual-in_err-change.ensures.1
    (c.in_err-change.ensures.damaged c.args.stamp.now.node c.requires.room.0 c.requires.room.1)

pub returns-in-NeedBlock-2-clause-carried : goal.returns-in-NeedBlock-2-clause-carried
returns-in-NeedBlock-2-clause-carried g c =
    needed_at _ _ (NeedsBlock (g.V.View.seen c.args.view.now) c.args.stamp.now.node (move_of c.args.m.now)) c.in-NeedBlock-2.is (c.in_ok-change.ensures.needed c.args.stamp.now.node c.requires.room.0 c.requires.room.1)

pub returns-in-Is-Some-clause-carried : goal.returns-in-Is-Some-clause-carried
returns-in-Is-Some-clause-carried g c =
    let v = g.V.View.seen c.args.view.now in
    let m = move_of c.args.m.now in (
      refl,
      record {
        need = c.requires.room.0;
        room = c.args.room.now;
        has = c.requires.room.1;
        off = answer_at _ _ (λ off. off ≡ true → IsOffWay v m c.args.room.now) c.in-Is-true.is c.in_ok-check_room.ensures.off c.in-Is-true.field-0-test;
        is = found_at c.in_ok-change.field-0 c.in-Is-Some.field-0 c.in-Is-Some.change (IsMoving v m c.args.room.now c.args.stamp.now.time) c.in-Is-Some.is c.in-Is-Some.field-0-is c.in_ok-change.ensures.moving;
      },
    )

pub returns-in-Is-None-clause-carried : goal.returns-in-Is-None-clause-carried
returns-in-Is-None-clause-carried g c =
    let stuck = IsStuck (g.V.View.seen c.args.view.now) c.args.stamp.now.node (move_of c.args.m.now) in
    at_none stuck c.in-Is-None.field-0 c.in-Is-None.field-0-is (answer_at _ _ (λ done. IfNone done stuck) c.in-Is-None.is (c.in_ok-change.ensures.stuck c.args.stamp.now.node c.requires.room.0 c.requires.room.1))

pub returns-in-Is-false-clause-carried : goal.returns-in-Is-false-clause-carried
returns-in-Is-false-clause-carried g c =
    answer_at _ _ (λ off. off ≡ false → IsStuck (g.V.View.seen c.args.view.now) c.args.stamp.now.node (move_of c.args.m.now)) c.in-Is-false.is
    (c.in_ok-check_room.ensures.goes c.args.stamp.now.node c.requires.room.0 c.requires.room.1) c.in-Is-false.field-0-test
