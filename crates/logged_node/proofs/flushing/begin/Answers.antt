use Rattle.std.proofs.Common.{ℕ, None, Some, Ok, Err, refl, rules, ap, subst}
use Rattle.log_values.specs.Flushing.{FlushAnswer}
use Rattle.log_values.specs.declared.steps.LogStep.{LogStep}
use Rattle.logged_node.specs.Homing.{homes_in}
use Rattle.logged_node.proofs.Onward.{stops_here}
use Rattle.logged_node.proofs.Beginning.{as_it_was_left, can_flush, no_room_is, nothing_is}
use Rattle.logged_node.proofs.Stepped.{answers, as_long, has_begun, homes_begun, may_begin, same_items, stops_beginning, with_step}
use Rattle.logged_node.proofs.flushing.begin.Goals as goal

pub returns-in-Err-clause-stopped : goal.returns-in-Err-clause-stopped
returns-in-Err-clause-stopped g c = stops_here 1 (g.D.SharedDisk.state c.args.disk.now) (g.D.SharedDisk.list c.args.disk.now) c.args.node.now c.have_room.new.node.items.items c.in-Err.why c.requires.resting.on.awaits c.in-Err.ensures.why c.have_room.ensures.items

pub carry-requires-clause-may : goal.carry-requires-clause-may
carry-requires-clause-may g c =
    may_begin c.widths_are_numbers.ensures (g.D.SharedDisk.state c.args.disk.now) (g.D.SharedDisk.state c.args.disk.now) (g.D.SharedDisk.list c.args.disk.now) (g.D.SharedDisk.list c.args.disk.now) c.args.node.now c.have_room.new.node c.next_step.new.node (record c.next_step.new.node { numbers = record c.next_step.new.node.numbers { begun = c.number_with-node.result } }) (record c.next_step.new.node { numbers = record c.next_step.new.node.numbers { begun = c.number_with-node.result } }) c.in-Some.step c.requires.resting c.requires.sequence c.have_room.ensures.node c.have_room.ensures.items
    c.next_step.ensures.node c.next_step.ensures.long c.in-Some.ensures.answer c.in_default.not-NoRoom (ap (λ (b : ℕ). record c.next_step.new.node { numbers = record c.next_step.new.node.numbers { begun = b } }) c.number_with-node.ensures)

pub returns-in-Err-clause-homes : goal.returns-in-Err-clause-homes
returns-in-Err-clause-homes g c = ap homes_in c.have_room.ensures.items

pub returns-in-None-clause-homes : goal.returns-in-None-clause-homes
returns-in-None-clause-homes g c = ap homes_in (same_items c.args.node.now c.have_room.new.node c.next_step.new.node c.next_step.ensures.node c.have_room.ensures.items)

pub returns-in-NoRoom-clause-homes : goal.returns-in-NoRoom-clause-homes
returns-in-NoRoom-clause-homes g c = ap homes_in (same_items c.args.node.now c.have_room.new.node c.next_step.new.node c.next_step.ensures.node c.have_room.ensures.items)

-- it is as it was
pub returns-in-None-clause-not : goal.returns-in-None-clause-not
returns-in-None-clause-not g c other =
    as_it_was_left (g.D.SharedDisk.state c.args.disk.now) (g.D.SharedDisk.list c.args.disk.now) c.args.node.now c.next_step.new.node c.requires.resting (with_step c.args.node.now c.have_room.new.node c.next_step.new.node c.have_room.ensures.node c.next_step.ensures.node)
    (nothing_is c.args.node.now.log c.next_step.new.node.log c.next_step.new.node.block.items (answers c.args.node.now c.have_room.new.node c.next_step.new.node None c.have_room.ensures.node c.in-None.ensures.answer)).1
    (same_items c.args.node.now c.have_room.new.node c.next_step.new.node c.next_step.ensures.node c.have_room.ensures.items) (as_long c.args.node.now c.have_room.new.node c.next_step.new.node c.have_room.ensures.node c.next_step.ensures.long)

pub returns-in-None-clause-nothing : goal.returns-in-None-clause-nothing
returns-in-None-clause-nothing g c is = (nothing_is c.args.node.now.log c.next_step.new.node.log c.next_step.new.node.block.items (answers c.args.node.now c.have_room.new.node c.next_step.new.node None c.have_room.ensures.node c.in-None.ensures.answer)).0

pub returns-in-NoRoom-clause-not : goal.returns-in-NoRoom-clause-not
returns-in-NoRoom-clause-not g c other =
    as_it_was_left (g.D.SharedDisk.state c.args.disk.now) (g.D.SharedDisk.list c.args.disk.now) c.args.node.now c.next_step.new.node c.requires.resting (with_step c.args.node.now c.have_room.new.node c.next_step.new.node c.have_room.ensures.node c.next_step.ensures.node)
    (no_room_is c.args.node.now.log c.next_step.new.node.log c.next_step.new.node.block.items
    (answers c.args.node.now c.have_room.new.node c.next_step.new.node _ c.have_room.ensures.node (subst (λ (s : LogStep). FlushAnswer c.have_room.new.node.log c.next_step.new.node.log c.next_step.new.node.block.items (Some s)) c.in-NoRoom.is c.in-Some.ensures.answer))).1
    (same_items c.args.node.now c.have_room.new.node c.next_step.new.node c.next_step.ensures.node c.have_room.ensures.items) (as_long c.args.node.now c.have_room.new.node c.next_step.new.node c.have_room.ensures.node c.next_step.ensures.long)

pub returns-in-NoRoom-clause-no_room : goal.returns-in-NoRoom-clause-no_room
returns-in-NoRoom-clause-no_room g c is =
    (no_room_is c.args.node.now.log c.next_step.new.node.log c.next_step.new.node.block.items
    (answers c.args.node.now c.have_room.new.node c.next_step.new.node _ c.have_room.ensures.node (subst (λ (s : LogStep). FlushAnswer c.have_room.new.node.log c.next_step.new.node.log c.next_step.new.node.block.items (Some s)) c.in-NoRoom.is c.in-Some.ensures.answer))).0

-- it begins
pub returns-in-Ok-carry : goal.returns-in-Ok-carry
returns-in-Ok-carry g c = record {
  begun = λ is. has_begun c.widths_are_numbers.ensures (g.D.SharedDisk.state c.args.disk.now) (g.D.SharedDisk.state c.carry.new.disk) (g.D.SharedDisk.list c.args.disk.now) (g.D.SharedDisk.list c.carry.new.disk) c.args.node.now c.have_room.new.node c.next_step.new.node (record c.next_step.new.node { numbers = record c.next_step.new.node.numbers { begun = c.number_with-node.result } }) c.carry.new.node c.in-Some.step c.requires.resting c.requires.sequence c.have_room.ensures.node c.have_room.ensures.items
      c.next_step.ensures.node c.next_step.ensures.long c.in-Some.ensures.answer c.in_default.not-NoRoom (ap (λ (b : ℕ). record c.next_step.new.node { numbers = record c.next_step.new.node.numbers { begun = b } }) c.number_with-node.ensures) c.in-Ok-carry.ensures.node c.in-Ok-carry.ensures.flying c.in-Ok-carry.ensures.awaits c.in-Ok-carry.ensures.armed c.in-Ok-carry.ensures.carried;
  can = λ is. can_flush c.args.node.now.log c.next_step.new.node.log c.next_step.new.node.block.items c.in-Some.step c.requires.resting.idle (answers c.args.node.now c.have_room.new.node c.next_step.new.node (Some c.in-Some.step) c.have_room.ensures.node c.in-Some.ensures.answer) c.in_default.not-NoRoom;
  not = λ other. absurd (other refl);
  nothing = λ is. absurd (cc);
  no_room = λ is. absurd (cc);
  homes = homes_begun c.widths_are_numbers.ensures (g.D.SharedDisk.state c.args.disk.now) (g.D.SharedDisk.state c.carry.new.disk) (g.D.SharedDisk.list c.args.disk.now) (g.D.SharedDisk.list c.carry.new.disk) c.args.node.now c.have_room.new.node c.next_step.new.node (record c.next_step.new.node { numbers = record c.next_step.new.node.numbers { begun = c.number_with-node.result } }) c.carry.new.node c.in-Some.step c.requires.resting c.requires.sequence c.have_room.ensures.node c.have_room.ensures.items
      c.next_step.ensures.node c.next_step.ensures.long c.in-Some.ensures.answer c.in_default.not-NoRoom (ap (λ (b : ℕ). record c.next_step.new.node { numbers = record c.next_step.new.node.numbers { begun = b } }) c.number_with-node.ensures) (Ok tt) c.in-Ok-carry.ensures.carried tt;
  stopped = tt;
  later = search rules;
  cause = tt;
}

pub returns-in-Err-carry : goal.returns-in-Err-carry
returns-in-Err-carry g c = record {
  begun = λ is. absurd (cc);
  can = λ is. absurd (cc);
  not = tt;
  nothing = λ is. absurd (cc);
  no_room = λ is. absurd (cc);
  homes = homes_begun c.widths_are_numbers.ensures (g.D.SharedDisk.state c.args.disk.now) (g.D.SharedDisk.state c.carry.new.disk) (g.D.SharedDisk.list c.args.disk.now) (g.D.SharedDisk.list c.carry.new.disk) c.args.node.now c.have_room.new.node c.next_step.new.node (record c.next_step.new.node { numbers = record c.next_step.new.node.numbers { begun = c.number_with-node.result } }) c.carry.new.node c.in-Some.step c.requires.resting c.requires.sequence c.have_room.ensures.node c.have_room.ensures.items
      c.next_step.ensures.node c.next_step.ensures.long c.in-Some.ensures.answer c.in_default.not-NoRoom (ap (λ (b : ℕ). record c.next_step.new.node { numbers = record c.next_step.new.node.numbers { begun = b } }) c.number_with-node.ensures) (Err c.in-Err-carry.why) c.in-Err-carry.ensures.carried c.in-Err-carry.ensures.kept;
  stopped = stops_beginning c.widths_are_numbers.ensures (g.D.SharedDisk.state c.args.disk.now) (g.D.SharedDisk.state c.carry.new.disk) (g.D.SharedDisk.list c.args.disk.now) (g.D.SharedDisk.list c.carry.new.disk) c.args.node.now c.have_room.new.node c.next_step.new.node (record c.next_step.new.node { numbers = record c.next_step.new.node.numbers { begun = c.number_with-node.result } }) c.carry.new.node c.in-Some.step c.requires.resting c.requires.sequence c.have_room.ensures.node c.have_room.ensures.items
      c.next_step.ensures.node c.next_step.ensures.long c.in-Some.ensures.answer c.in_default.not-NoRoom (ap (λ (b : ℕ). record c.next_step.new.node { numbers = record c.next_step.new.node.numbers { begun = b } }) c.number_with-node.ensures) (Err c.in-Err-carry.why) c.in-Err-carry.ensures.carried c.in-Err-carry.ensures.crashed c.in-Err-carry.ensures.failed c.in-Err-carry.ensures.at c.in-Err-carry.ensures.kept;
  later = search rules;
  cause = search rules;
}
