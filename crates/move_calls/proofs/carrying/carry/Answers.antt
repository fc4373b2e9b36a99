use Rattle.std.proofs.Common.{◌≢◌, []}
use Rattle.std.specs.Prelude.{IfNone}
use Rattle.glock_names.proofs.StepLaws.{answer_at, needed_at}
use Rattle.move_ends.specs.Shown.{IsShown}
use Rattle.hash_dirs.proofs.Leaves.{found_at}
use Rattle.move_ends.proofs.Faults.{tells_each, tells_so, told_on}
use Rattle.name_moves.specs.Inserting.{IsNeededForName, IsWrongForName, SeesForName}
use Rattle.name_moves.specs.Moving.{lost_there, move_of}
use Rattle.move_calls.specs.Carrying.{IsDamageOf, IsStuck, NeedsBlock, NeedsFor}
use Rattle.move_calls.proofs.Room.{at_none}
use Rattle.move_calls.proofs.carrying.carry.Goals as goal

pub returns-in_err-look_ahead-clause-damaged : goal.returns-in_err-look_ahead-clause-damaged
returns-in_err-look_ahead-clause-damaged g c =
    let v = g.V.View.seen c.args.view.now in
    let m = move_of c.args.m.now in
    told_on (IsDamageOf v c.args.stamp.now.node m) c.from_residual.result _ c.from_residual.ensures.1
    (tells_so _ (IsDamageOf v c.args.stamp.now.node m) (λ rule b wrong. IsDamageOf.to_look rule b wrong) c.in_err-look_ahead.field-0.0
    (tells_each (IsShown v m.to.inode) (IsWrongForName v) c.in_err-look_ahead.field-0.0 c.in_err-look_ahead.ensures.damaged))

pub returns-in-NeedBlock-clause-carried : goal.returns-in-NeedBlock-clause-carried
returns-in-NeedBlock-clause-carried g c =
    let v = g.V.View.seen c.args.view.now in
    NeedsBlock.to_look (needed_at _ _ _ c.in-NeedBlock.is c.in_ok-look_ahead.ensures.absent)
    (λ h shown. needed_at _ _ (IsNeededForName v h c.args.m.now.new_name.now) c.in-NeedBlock.is (c.in_ok-look_ahead.ensures.needed h shown))

pub count_blocks-requires-clause-looked : goal.count_blocks-requires-clause-looked
count_blocks-requires-clause-looked g c some h shown =
    let v = g.V.View.seen c.args.view.now in
    let m = move_of c.args.m.now in
    answer_at _ _ (λ done. lost_there m ≢ [] → SeesForName v h m.new_name) c.in-Is.is (c.in_ok-look_ahead.ensures.seen h shown) some

pub returns-in_err-need-clause-damaged : goal.returns-in_err-need-clause-damaged
returns-in_err-need-clause-damaged g c =
    told_on (IsDamageOf (g.V.View.seen c.args.view.now) c.args.stamp.now.node (move_of c.args.m.now)) c.from_residual-in_err-need.result _ c.from_residual-in_err-need.ensures.1
    (c.in_err-need.ensures.damaged c.args.stamp.now.node)

pub carry_counted-requires-clause-needs : goal.carry_counted-requires-clause-needs
carry_counted-requires-clause-needs g c =
    found_at c.in_ok-need.field-0 c.in-Is-Some.field-0 c.in-Is-Some.need (NeedsFor (g.V.View.seen c.args.view.now) (move_of c.args.m.now)) c.in-Is-Some.is c.in-Is-Some.field-0-is c.in_ok-need.ensures.need

pub returns-in-Is-None-clause-carried : goal.returns-in-Is-None-clause-carried
returns-in-Is-None-clause-carried g c =
    let stuck = IsStuck (g.V.View.seen c.args.view.now) c.args.stamp.now.node (move_of c.args.m.now) in
    at_none stuck c.in-Is-None.field-0 c.in-Is-None.field-0-is (answer_at _ _ (λ found. IfNone found stuck) c.in-Is-None.is (c.in_ok-need.ensures.stuck c.args.stamp.now.node))

pub returns-in-NeedBlock-2-clause-carried : goal.returns-in-NeedBlock-2-clause-carried
returns-in-NeedBlock-2-clause-carried g c =
    needed_at _ _ (NeedsBlock (g.V.View.seen c.args.view.now) c.args.stamp.now.node (move_of c.args.m.now)) c.in-NeedBlock-2.is (c.in_ok-need.ensures.needed c.args.stamp.now.node)
