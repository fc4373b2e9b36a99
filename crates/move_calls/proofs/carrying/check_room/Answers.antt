use Rattle.std.proofs.Common.{rules, ◌≢◌, ℕ, []}
use Rattle.std.specs.Prelude.{Contains, IfNone}
use Rattle.glock_names.proofs.StepLaws.{answer_at}
use Rattle.name_moves.specs.Way.{IsRightWay}
use Rattle.hash_dirs.proofs.Leaves.{found_at}
use Rattle.move_ends.proofs.Faults.{tells_so, told_on}
use Rattle.name_moves.specs.Moving.{IsPlaceOfMove, move_of}
use Rattle.move_calls.specs.Carrying.{IsDamageOf, IsInTheWay, IsStuck}
use Rattle.move_calls.specs.Checks.{IsOffItsWays, IsOnItsWay, IsWrongOnWays}
use Rattle.move_calls.proofs.Room.{at_none, off_room, place_of}
use Rattle.move_calls.proofs.carrying.check_room.Goals as goal

pub returns-in-Some-clause-damaged : goal.returns-in-Some-clause-damaged
returns-in-Some-clause-damaged g c node need has =
    IsDamageOf.called_free need c.in-Some.block c.args.room.now has c.in-Some.ensures.some.0 (IsInTheWay.a_place (place_of (move_of c.args.m.now) c.in-Some.block c.in-Some.ensures.some.1))

pub returns-then-is_none-clause-goes : goal.returns-then-is_none-clause-goes
returns-then-is_none-clause-goes g c node need has e =
    IsStuck.goes_free need c.in-Some-taken_that_goes.freed c.args.room.now has c.in-Some-taken_that_goes.ensures.some.0 c.in-Some-taken_that_goes.ensures.some.1 (search rules)

pub returns-in-Some-taken_that_goes-clause-damaged : goal.returns-in-Some-taken_that_goes-clause-damaged
returns-in-Some-taken_that_goes-clause-damaged g c node need has =
    IsDamageOf.called_free need c.in-Some-taken_that_goes.freed c.args.room.now has c.in-Some-taken_that_goes.ensures.some.0 (IsInTheWay.a_place (IsPlaceOfMove.of_replaced c.in-Some-taken_that_goes.ensures.some.1))

pub returns-in_err-block_on_ways-clause-damaged : goal.returns-in_err-block_on_ways-clause-damaged
returns-in_err-block_on_ways-clause-damaged g c node need has =
    let v = g.V.View.seen c.args.view.now in
    let m = move_of c.args.m.now in
    told_on (IsDamageOf v node m) c.from_residual.result _ c.from_residual.ensures.1
    (tells_so (IsWrongOnWays v m) (IsDamageOf v node m) (λ rule b wrong. IsDamageOf.on_way need c.args.room.now rule b has wrong) c.in_err-block_on_ways.field-0.0 c.in_err-block_on_ways.ensures.damaged)

pub returns-in-Is-Some-clause-damaged : goal.returns-in-Is-Some-clause-damaged
returns-in-Is-Some-clause-damaged g c node need has =
    let v = g.V.View.seen c.args.view.now in
    let m = move_of c.args.m.now in
    let on = found_at c.in_ok-block_on_ways.field-0 c.in-Is-Some.field-0 c.in-Is-Some.block (λ b. Contains c.args.room.now b × IsOnItsWay v m b) c.in-Is-Some.is c.in-Is-Some.field-0-is c.in_ok-block_on_ways.ensures.some in
    IsDamageOf.called_free need c.in-Is-Some.block c.args.room.now has on.0 (IsInTheWay.on_way on.1)

pub returns-in-Is-None-clause-off : goal.returns-in-Is-None-clause-off
returns-in-Is-None-clause-off g c e =
    let v = g.V.View.seen c.args.view.now in
    let m = move_of c.args.m.now in
    let room = c.args.room.now in
    record {
      apart = off_room m room c.in_default.ensures.none c.in_default-taken_that_goes.ensures.none;
      off = at_none ((b : ℕ) → Contains room b → IsOffItsWays v m b) c.in-Is-None.field-0 c.in-Is-None.field-0-is
          (answer_at _ _ (λ found. IfNone found ((b : ℕ) → Contains room b → IsOffItsWays v m b)) c.in-Is-None.is c.in_ok-block_on_ways.ensures.none);
      way = λ some h shown.
          at_none (room ≢ [] → IsRightWay v h m.new_name room) c.in-Is-None.field-0 c.in-Is-None.field-0-is
          (answer_at _ _ (λ found. IfNone found (room ≢ [] → IsRightWay v h m.new_name room)) c.in-Is-None.is (c.in_ok-block_on_ways.ensures.right h shown)) some;
    }
