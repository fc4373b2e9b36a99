use Rattle.std.proofs.Common.{ap}
use Rattle.logged_node.specs.Homing.{homes_in}
use Rattle.logged_node.proofs.Onward.{stops_here}
use Rattle.logged_node.proofs.Carrying.{ok_of_all}
use Rattle.logged_node.proofs.Stepped.{has_gone_on, has_step, homes_going_on, may_go_on, stops_going_on}
use Rattle.logged_node.proofs.flushing.go_on.Goals as goal

pub returns-in-Err-clause-stopped : goal.returns-in-Err-clause-stopped
returns-in-Err-clause-stopped g c = stops_here 1 (g.D.SharedDisk.state c.args.disk.now) (g.D.SharedDisk.list c.args.disk.now) c.args.node.now c.have_room.new.node.items.items c.in-Err.why c.requires.flushing.2.on.awaits c.in-Err.ensures.why c.have_room.ensures.items

pub unreachable-requires : goal.unreachable-requires
unreachable-requires g c = has_step (g.D.SharedDisk.state c.args.disk.now) c.args.node.now c.have_room.new.node c.next_step.new.node c.requires.flushing c.have_room.ensures.node c.in-None.ensures.answer

pub carry-requires-clause-may : goal.carry-requires-clause-may
carry-requires-clause-may g c =
    may_go_on c.widths_are_numbers.ensures (g.D.SharedDisk.state c.args.disk.now) (g.D.SharedDisk.state c.args.disk.now) (g.D.SharedDisk.list c.args.disk.now) (g.D.SharedDisk.list c.args.disk.now) c.args.node.now c.have_room.new.node c.next_step.new.node
    c.next_step.new.node c.in-Some.step c.requires.sequence c.have_room.ensures.node c.have_room.ensures.items c.next_step.ensures.node c.next_step.ensures.long c.in-Some.ensures.answer c.requires.flushing

pub returns-clause-came : goal.returns-clause-came
returns-clause-came g c =
    ok_of_all c.carry.result _ _ _ _ _ _
    (λ done node flying awaits armed.
    has_gone_on c.widths_are_numbers.ensures (g.D.SharedDisk.state c.args.disk.now) (g.D.SharedDisk.state c.carry.new.disk) (g.D.SharedDisk.list c.args.disk.now) (g.D.SharedDisk.list c.carry.new.disk) c.args.node.now c.have_room.new.node c.next_step.new.node
    c.carry.new.node c.in-Some.step c.requires.sequence c.have_room.ensures.node c.have_room.ensures.items c.next_step.ensures.node c.next_step.ensures.long c.in-Some.ensures.answer c.requires.flushing node flying awaits armed done)
    c.carry.ensures.carried c.carry.ensures.node c.carry.ensures.flying c.carry.ensures.awaits c.carry.ensures.armed

pub returns-clause-stopped : goal.returns-clause-stopped
returns-clause-stopped g c =
    stops_going_on c.widths_are_numbers.ensures (g.D.SharedDisk.state c.args.disk.now) (g.D.SharedDisk.state c.carry.new.disk) (g.D.SharedDisk.list c.args.disk.now) (g.D.SharedDisk.list c.carry.new.disk) c.args.node.now c.have_room.new.node c.next_step.new.node
    c.carry.new.node c.in-Some.step c.requires.sequence c.have_room.ensures.node c.have_room.ensures.items c.next_step.ensures.node c.next_step.ensures.long c.in-Some.ensures.answer c.requires.flushing c.carry.result
    c.carry.ensures.carried c.carry.ensures.crashed c.carry.ensures.failed c.carry.ensures.at c.carry.ensures.kept

pub returns-in-Err-clause-homes : goal.returns-in-Err-clause-homes
returns-in-Err-clause-homes g c = ap homes_in c.have_room.ensures.items

pub returns-clause-homes : goal.returns-clause-homes
returns-clause-homes g c =
    homes_going_on c.widths_are_numbers.ensures (g.D.SharedDisk.state c.args.disk.now) (g.D.SharedDisk.state c.carry.new.disk) (g.D.SharedDisk.list c.args.disk.now) (g.D.SharedDisk.list c.carry.new.disk) c.args.node.now c.have_room.new.node c.next_step.new.node
    c.carry.new.node c.in-Some.step c.requires.sequence c.have_room.ensures.node c.have_room.ensures.items c.next_step.ensures.node c.next_step.ensures.long c.in-Some.ensures.answer c.requires.flushing c.carry.result
    c.carry.ensures.carried c.carry.ensures.kept
