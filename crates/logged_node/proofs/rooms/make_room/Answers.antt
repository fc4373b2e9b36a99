use Rattle.std.proofs.Common.{Ok, ap, arith}
use Rattle.log_values.specs.Log.{LogValue}
use Rattle.logged_node.specs.declared.flushing.Flushed.{Flushed}
use Rattle.logged_node.proofs.Onward.{stops_few, stops_on}
use Rattle.logged_node.proofs.MakingRoom.{come_grows, made_room, moved_kept}
use Rattle.logged_node.proofs.Ordering.{so_far_then}
use Rattle.logged_node.proofs.rooms.make_room.Goals as goal

pub returns-in-Ok-flush-clause-came : goal.returns-in-Ok-flush-clause-came
returns-in-Ok-flush-clause-came g c =
    (made_room (g.D.SharedDisk.state c.args.disk.now) (g.D.SharedDisk.state c.go_home.new.disk) (g.D.SharedDisk.state c.flush.new.disk) (g.D.SharedDisk.list c.args.disk.now) (g.D.SharedDisk.list c.go_home.new.disk) (g.D.SharedDisk.list c.flush.new.disk) c.args.node.now c.go_home.new.node c.flush.new.node c.in-Ok.ensures.home c.requires.stuck c.requires.some c.in-Ok-flush.field-0 (λ is. c.in-Ok-flush.ensures.done (ap (λ (x : Flushed). Ok x) is)) c.in-Ok-flush.ensures.nothing.0 c.in-Ok-flush.ensures.no_room.0).0

pub returns-in-Ok-flush-clause-empty : goal.returns-in-Ok-flush-clause-empty
returns-in-Ok-flush-clause-empty g c =
    (made_room (g.D.SharedDisk.state c.args.disk.now) (g.D.SharedDisk.state c.go_home.new.disk) (g.D.SharedDisk.state c.flush.new.disk) (g.D.SharedDisk.list c.args.disk.now) (g.D.SharedDisk.list c.go_home.new.disk) (g.D.SharedDisk.list c.flush.new.disk) c.args.node.now c.go_home.new.node c.flush.new.node c.in-Ok.ensures.home c.requires.stuck c.requires.some c.in-Ok-flush.field-0 (λ is. c.in-Ok-flush.ensures.done (ap (λ (x : Flushed). Ok x) is)) c.in-Ok-flush.ensures.nothing.0 c.in-Ok-flush.ensures.no_room.0).1

pub returns-in-Err-flush-clause-stopped : goal.returns-in-Err-flush-clause-stopped
returns-in-Err-flush-clause-stopped g c =
    stops_on (g.D.SharedDisk.state c.args.disk.now) (g.D.SharedDisk.state c.go_home.new.disk) (g.D.SharedDisk.state c.flush.new.disk) (g.D.SharedDisk.list c.args.disk.now) (g.D.SharedDisk.list c.go_home.new.disk) (g.D.SharedDisk.list c.flush.new.disk) c.args.node.now c.go_home.new.node c.flush.new.node.items.items c.in-Err-flush.why 1 1 (let same = ap (λ (x : LogValue). x.sequence) c.in-Ok.ensures.home.moves.log in omega (arith, same)) c.in-Ok.ensures.home.goes.steps c.in-Ok.ensures.home.goes.armed (moved_kept c.args.node.now c.go_home.new.node c.in-Ok.ensures.home.moves) c.in-Err-flush.ensures.stopped

pub returns-in-Ok-flush-clause-order : goal.returns-in-Ok-flush-clause-order
returns-in-Ok-flush-clause-order g c = so_far_then c.args.node.now.log c.args.node.now.items.items c.go_home.new.node.items.items c.flush.new.node.items.items c.in-Ok.ensures.order c.in-Ok-flush.ensures.homes

pub returns-in-Err-flush-clause-order : goal.returns-in-Err-flush-clause-order
returns-in-Err-flush-clause-order g c = so_far_then c.args.node.now.log c.args.node.now.items.items c.go_home.new.node.items.items c.flush.new.node.items.items c.in-Ok.ensures.order c.in-Err-flush.ensures.homes

pub returns-in-Ok-flush-clause-grows : goal.returns-in-Ok-flush-clause-grows
returns-in-Ok-flush-clause-grows g c = come_grows (g.D.SharedDisk.state c.args.disk.now) (g.D.SharedDisk.state c.flush.new.disk) (g.D.SharedDisk.list c.args.disk.now) (g.D.SharedDisk.list c.flush.new.disk) c.args.node.now c.flush.new.node (made_room (g.D.SharedDisk.state c.args.disk.now) (g.D.SharedDisk.state c.go_home.new.disk) (g.D.SharedDisk.state c.flush.new.disk) (g.D.SharedDisk.list c.args.disk.now) (g.D.SharedDisk.list c.go_home.new.disk) (g.D.SharedDisk.list c.flush.new.disk) c.args.node.now c.go_home.new.node c.flush.new.node c.in-Ok.ensures.home c.requires.stuck c.requires.some c.in-Ok-flush.field-0 (λ is. c.in-Ok-flush.ensures.done (ap (λ (x : Flushed). Ok x) is)) c.in-Ok-flush.ensures.nothing.0 c.in-Ok-flush.ensures.no_room.0).0

pub returns-in-Err-clause-stopped : goal.returns-in-Err-clause-stopped
returns-in-Err-clause-stopped g c = stops_few (g.D.SharedDisk.state c.args.disk.now) (g.D.SharedDisk.state c.go_home.new.disk) (g.D.SharedDisk.list c.args.disk.now) (g.D.SharedDisk.list c.go_home.new.disk) c.args.node.now c.go_home.new.node.items.items c.in-Err.why 0 1 (omega arith) c.in-Err.ensures.stopped
