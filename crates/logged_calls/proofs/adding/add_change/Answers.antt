use Rattle.std.proofs.Common.{subst, arith}
use Rattle.logged_node.proofs.Onward.{stops_few}
use Rattle.logged_node.specs.declared.node.Node.{Node}
use Rattle.logged_node.specs.Nodes.{StopsBehind}
use Rattle.logged_node.proofs.Ended.{cause_of_all}
use Rattle.logged_calls.proofs.Added.{added_by, added_then, brought_to, low_still, map_end, may_go_on, no_place_then, none_is_due, stops_then}
use Rattle.logged_calls.proofs.Moved.{moved_few, still_here}
use Rattle.logged_calls.proofs.adding.add_change.Goals as goal

pub returns-then-take_change-clause-added : goal.returns-then-take_change-clause-added
returns-then-take_change-clause-added g c is =
    added_by (g.D.SharedDisk.state c.args.disk.now) (g.D.SharedDisk.state c.args.disk.now) (g.D.SharedDisk.list c.args.disk.now) (g.D.SharedDisk.list c.args.disk.now) c.args.node.now c.args.node.now c.take_change.new.node c.args.change.now c.take_change.result 3
    (still_here 3 (g.D.SharedDisk.state c.args.disk.now) (g.D.SharedDisk.list c.args.disk.now) c.args.node.now c.requires.ready) c.requires.low c.if-take_change.true c.take_change.ensures.taken c.take_change.ensures.exactly.0 (c.take_change.ensures.resting (g.D.SharedDisk.state c.args.disk.now))

pub returns-in-Err-clause-stopped : goal.returns-in-Err-clause-stopped
returns-in-Err-clause-stopped g c =
    stops_few (g.D.SharedDisk.state c.args.disk.now) (g.D.SharedDisk.state c.bring_in.new.disk) (g.D.SharedDisk.list c.args.disk.now) (g.D.SharedDisk.list c.bring_in.new.disk) c.args.node.now c.bring_in.new.node.items.items c.in-Err.why 2 3 (omega arith)
    (subst (λ (x : Node). StopsBehind 2 (g.D.SharedDisk.state c.args.disk.now) (g.D.SharedDisk.list c.args.disk.now) x (g.D.SharedDisk.state c.bring_in.new.disk) (g.D.SharedDisk.list c.bring_in.new.disk) c.bring_in.new.node.items.items c.in-Err.why) (c.take_change.ensures.kept c.if-take_change.false) c.in-Err.ensures.stopped)

pub returns-then-take_change-2-clause-added : goal.returns-then-take_change-2-clause-added
returns-then-take_change-2-clause-added g c is =
    added_by (g.D.SharedDisk.state c.args.disk.now) (g.D.SharedDisk.state c.bring_in.new.disk) (g.D.SharedDisk.list c.args.disk.now) (g.D.SharedDisk.list c.bring_in.new.disk) c.args.node.now c.bring_in.new.node c.take_change-2.new.node c.args.change.now c.take_change-2.result 3 (moved_few 2 3 (g.D.SharedDisk.state c.args.disk.now) (g.D.SharedDisk.state c.bring_in.new.disk) (g.D.SharedDisk.list c.args.disk.now) (g.D.SharedDisk.list c.bring_in.new.disk) c.args.node.now c.bring_in.new.node (omega arith) (brought_to (g.D.SharedDisk.state c.args.disk.now) (g.D.SharedDisk.state c.bring_in.new.disk) (g.D.SharedDisk.list c.args.disk.now) (g.D.SharedDisk.list c.bring_in.new.disk) c.args.node.now c.take_change.new.node c.bring_in.new.node c.take_change-2.new.node c.requires.ready (c.take_change.ensures.kept c.if-take_change.false) c.in-Ok.ensures.brought c.in-Ok.ensures.synced))
    (low_still (g.D.SharedDisk.state c.args.disk.now) (g.D.SharedDisk.state c.bring_in.new.disk) c.args.change.now c.in-Ok.ensures.brought.goes.disk.count c.requires.low) c.if-take_change-2.true c.take_change-2.ensures.taken c.take_change-2.ensures.exactly.0 (c.take_change-2.ensures.resting (g.D.SharedDisk.state c.bring_in.new.disk))

pub add_behind-requires-clause-ready : goal.add_behind-requires-clause-ready
add_behind-requires-clause-ready g c =
    may_go_on (g.D.SharedDisk.state c.args.disk.now) (g.D.SharedDisk.state c.bring_in.new.disk) (g.D.SharedDisk.list c.args.disk.now) (g.D.SharedDisk.list c.bring_in.new.disk) c.args.node.now c.take_change.new.node c.bring_in.new.node c.take_change-2.new.node c.requires.ready (c.take_change.ensures.kept c.if-take_change.false) c.in-Ok.ensures.brought c.in-Ok.ensures.synced (c.take_change-2.ensures.kept c.if-take_change-2.false)

pub add_behind-requires-clause-none : goal.add_behind-requires-clause-none
add_behind-requires-clause-none g c =
    none_is_due (g.D.SharedDisk.state c.args.disk.now) (g.D.SharedDisk.state c.bring_in.new.disk) (g.D.SharedDisk.list c.args.disk.now) (g.D.SharedDisk.list c.bring_in.new.disk) c.args.node.now c.take_change.new.node c.bring_in.new.node c.take_change-2.new.node c.requires.ready (c.take_change.ensures.kept c.if-take_change.false) c.in-Ok.ensures.brought c.in-Ok.ensures.synced (c.take_change-2.ensures.kept c.if-take_change-2.false)

pub returns-clause-added : goal.returns-clause-added
returns-clause-added g c is =
    added_then (g.D.SharedDisk.state c.args.disk.now) (g.D.SharedDisk.state c.bring_in.new.disk) (g.D.SharedDisk.list c.args.disk.now) (g.D.SharedDisk.list c.bring_in.new.disk) c.args.node.now c.take_change.new.node c.bring_in.new.node c.take_change-2.new.node c.requires.ready (c.take_change.ensures.kept c.if-take_change.false) c.in-Ok.ensures.brought c.in-Ok.ensures.synced (c.take_change-2.ensures.kept c.if-take_change-2.false) (g.D.SharedDisk.state c.add_behind.new.disk) (g.D.SharedDisk.list c.add_behind.new.disk) c.add_behind.new.node c.args.change.now (c.add_behind.ensures.added is)

pub returns-clause-not : goal.returns-clause-not
returns-clause-not g c is =
    no_place_then (g.D.SharedDisk.state c.args.disk.now) (g.D.SharedDisk.state c.bring_in.new.disk) (g.D.SharedDisk.list c.args.disk.now) (g.D.SharedDisk.list c.bring_in.new.disk) c.args.node.now c.take_change.new.node c.bring_in.new.node c.take_change-2.new.node c.requires.ready (c.take_change.ensures.kept c.if-take_change.false) c.in-Ok.ensures.brought c.in-Ok.ensures.synced (c.take_change-2.ensures.kept c.if-take_change-2.false) (g.D.SharedDisk.state c.add_behind.new.disk) (g.D.SharedDisk.list c.add_behind.new.disk) c.add_behind.new.node c.args.change.now (c.add_behind.ensures.not is)

pub returns-clause-stopped : goal.returns-clause-stopped
returns-clause-stopped g c =
    map_end c.add_behind.result _ _ (λ why stops. stops_then (g.D.SharedDisk.state c.args.disk.now) (g.D.SharedDisk.state c.bring_in.new.disk) (g.D.SharedDisk.list c.args.disk.now) (g.D.SharedDisk.list c.bring_in.new.disk) c.args.node.now c.take_change.new.node c.bring_in.new.node c.take_change-2.new.node c.requires.ready (c.take_change.ensures.kept c.if-take_change.false) c.in-Ok.ensures.brought c.in-Ok.ensures.synced (c.take_change-2.ensures.kept c.if-take_change-2.false) (g.D.SharedDisk.state c.add_behind.new.disk) (g.D.SharedDisk.list c.add_behind.new.disk) c.add_behind.new.node.items.items why stops) c.add_behind.ensures.stopped

pub returns-clause-later : goal.returns-clause-later
returns-clause-later g c i =
    let a = c.in-Ok.ensures.later i in let b = c.add_behind.ensures.later i in omega (arith, a, b)

pub returns-clause-cause : goal.returns-clause-cause
returns-clause-cause g c =
    map_end c.add_behind.result _ _ (λ why cause. cause_of_all _ _ (g.D.SharedDisk.faults c.args.disk.now) (g.D.SharedDisk.faults c.bring_in.new.disk) (g.D.SharedDisk.faults c.add_behind.new.disk) why c.in-Ok.ensures.brought.goes.disk.count (c.in-Ok.ensures.later 1) cause) c.add_behind.ensures.cause
