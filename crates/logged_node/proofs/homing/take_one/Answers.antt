use Rattle.std.proofs.Common.{ap, arith}
use Rattle.log_values.specs.Log.{LogValue}
use Rattle.logged_node.proofs.Homeward.{homeward_on}
use Rattle.logged_node.proofs.MakingRoom.{moved_kept}
use Rattle.logged_node.proofs.Onward.{map_err, stops_on}
use Rattle.logged_node.proofs.Carrying.{ok_both, ok_map}
use Rattle.logged_node.proofs.Ordering.{sends_last, sends_one, so_far_then}
use Rattle.logged_node.proofs.homing.take_one.Goals as goal

pub returns-then-node-ge-MOST_IN_FLIGHT-clause-taken : goal.returns-then-node-ge-MOST_IN_FLIGHT-clause-taken
returns-then-node-ge-MOST_IN_FLIGHT-clause-taken g c =
    ok_map c.rest.result _ _ (λ more. homeward_on (g.D.SharedDisk.state c.args.disk.now) (g.D.SharedDisk.state c.send.new.disk) (g.D.SharedDisk.state c.rest.new.disk) (g.D.SharedDisk.list c.args.disk.now) (g.D.SharedDisk.list c.send.new.disk) (g.D.SharedDisk.list c.rest.new.disk) c.args.node.now c.send.new.node c.rest.new.node c.in-Ok.ensures.sent more) c.rest.ensures.rested

pub returns-then-node-ge-MOST_IN_FLIGHT-clause-stopped : goal.returns-then-node-ge-MOST_IN_FLIGHT-clause-stopped
returns-then-node-ge-MOST_IN_FLIGHT-clause-stopped g c =
    map_err c.rest.result _ _ (λ why stops. stops_on (g.D.SharedDisk.state c.args.disk.now) (g.D.SharedDisk.state c.send.new.disk) (g.D.SharedDisk.state c.rest.new.disk) (g.D.SharedDisk.list c.args.disk.now) (g.D.SharedDisk.list c.send.new.disk) (g.D.SharedDisk.list c.rest.new.disk) c.args.node.now c.send.new.node c.rest.new.node.items.items why 0 0 (let same = ap (λ (x : LogValue). x.sequence) c.in-Ok.ensures.sent.moves.log in omega (arith, same)) c.in-Ok.ensures.sent.goes.steps c.in-Ok.ensures.sent.goes.armed (moved_kept c.args.node.now c.send.new.node c.in-Ok.ensures.sent.moves) stops) c.rest.ensures.stopped

pub returns-then-node-ge-MOST_IN_FLIGHT-clause-order : goal.returns-then-node-ge-MOST_IN_FLIGHT-clause-order
returns-then-node-ge-MOST_IN_FLIGHT-clause-order g c = so_far_then c.args.node.now.log c.args.node.now.items.items c.send.new.node.items.items c.rest.new.node.items.items c.in-Ok.ensures.order c.rest.ensures.homes

pub returns-then-node-ge-MOST_IN_FLIGHT-clause-one : goal.returns-then-node-ge-MOST_IN_FLIGHT-clause-one
returns-then-node-ge-MOST_IN_FLIGHT-clause-one g c =
    ok_both c.rest.result _ _ _ _
    (λ told flying _. sends_last c.args.node.now c.send.new.node c.rest.new.node c.requires.few c.in-Ok.ensures.told c.in-Ok.ensures.flying c.if-node-ge-MOST_IN_FLIGHT.true told flying) c.rest.ensures.told c.rest.ensures.flying c.rest.ensures.none

pub returns-else-node-ge-MOST_IN_FLIGHT-clause-one : goal.returns-else-node-ge-MOST_IN_FLIGHT-clause-one
returns-else-node-ge-MOST_IN_FLIGHT-clause-one g c = sends_one c.args.node.now c.send.new.node c.requires.few c.in-Ok.ensures.told c.in-Ok.ensures.flying c.if-node-ge-MOST_IN_FLIGHT.false
