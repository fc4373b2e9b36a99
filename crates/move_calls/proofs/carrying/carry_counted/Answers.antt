use Rattle.std.proofs.Common.{refl}
use Rattle.name_moves.specs.Moving.{move_of}
use Rattle.move_calls.specs.Carrying.{FirstAreHeld, LacksFirst, LacksLock}
use Rattle.move_calls.proofs.Room.{at_none, at_some}
use Rattle.move_calls.proofs.carrying.carry_counted.Goals as goal

pub returns-in-Some-clause-carried : goal.returns-in-Some-clause-carried
returns-in-Some-clause-carried g c =
    LacksLock.of_first c.args.need c.requires.needs
    (at_some (LacksFirst (g.V.View.seen c.args.view.now) c.args.stamp.now.node (move_of c.args.m.now) c.args.need) c.lacked_first.result c.in-Some.lock c.in-Some.is c.lacked_first.ensures.some) refl

pub carry_held-requires-clause-counted : goal.carry_held-requires-clause-counted
carry_held-requires-clause-counted g c = record {
  needs = c.requires.needs;
  first = at_none (FirstAreHeld (g.V.View.seen c.args.view.now) c.args.stamp.now.node (move_of c.args.m.now) c.args.need) c.lacked_first.result c.in-None.is c.lacked_first.ensures.none;
}
