use Rattle.std.proofs.Common.{length, ap, ◌∙◌, arith}
use Rattle.log_values.specs.Log.{LogValue}
use Rattle.logged_node.proofs.Homeward.{gone_home_on, homeward_none, homeward_on, rest_homes}
use Rattle.logged_node.proofs.MakingRoom.{moved_kept}
use Rattle.logged_node.proofs.Onward.{map_err, stops_on}
use Rattle.logged_node.proofs.Ordering.{rests_due, rests_none, rests_one, so_far_on, so_far_order, so_far_then}
use Rattle.logged_node.proofs.Carrying.{ok_map}
use Rattle.logged_node.proofs.homing.go_home.Goals as goal

pub loop-lock-init : goal.loop-lock-init
loop-lock-init g c = record {
  came = homeward_none (g.D.SharedDisk.state c.args.disk.now) (g.D.SharedDisk.list c.args.disk.now) c.args.node.now (rest_homes (g.D.SharedDisk.state c.args.disk.now) c.args.node.now c.requires.resting);
  few = (let none = ap length c.requires.resting.none in let is = c.requires.resting.on.flying in omega (arith, none, is));
  rests = rests_none c.args.node.now.items.items c.args.node.now.flying (c.requires.resting.on.flying ∙ ap length c.requires.resting.none);
  later = λ i. omega arith;
}

pub loop-lock-preserved : goal.loop-lock-preserved
loop-lock-preserved g c = record {
  came = homeward_on (g.D.SharedDisk.state c.args.disk.now) (g.D.SharedDisk.state c.loop-lock.disk) (g.D.SharedDisk.state c.take_one.new.disk) (g.D.SharedDisk.list c.args.disk.now) (g.D.SharedDisk.list c.loop-lock.disk) (g.D.SharedDisk.list c.take_one.new.disk) c.args.node.now c.loop-lock.node c.take_one.new.node c.loop-lock.invariant.came c.in-Ok.ensures.taken;
  few = c.in-Ok.ensures.few;
  rests = rests_one c.args.node.now.items.items c.loop-lock.node c.take_one.new.node c.loop-lock.invariant.rests c.in-Ok.ensures.one;
  later = λ i. (let before = c.loop-lock.invariant.later i in let more = c.in-Ok.ensures.later i in omega (arith, before, more));
}

pub returns-in-Err-clause-stopped : goal.returns-in-Err-clause-stopped
returns-in-Err-clause-stopped g c =
    stops_on (g.D.SharedDisk.state c.args.disk.now) (g.D.SharedDisk.state c.loop-lock.disk) (g.D.SharedDisk.state c.take_one.new.disk) (g.D.SharedDisk.list c.args.disk.now) (g.D.SharedDisk.list c.loop-lock.disk) (g.D.SharedDisk.list c.take_one.new.disk) c.args.node.now c.loop-lock.node c.take_one.new.node.items.items c.in-Err.why 0 0 (let same = ap (λ (x : LogValue). x.sequence) c.loop-lock.invariant.came.moves.log in omega (arith, same)) c.loop-lock.invariant.came.goes.steps c.loop-lock.invariant.came.goes.armed (moved_kept c.args.node.now c.loop-lock.node c.loop-lock.invariant.came.moves) c.in-Err.ensures.stopped

pub returns-clause-home : goal.returns-clause-home
returns-clause-home g c =
    ok_map c.rest_if_any.result _ _ (λ more. gone_home_on (g.D.SharedDisk.state c.args.disk.now) (g.D.SharedDisk.state c.loop-lock.disk) (g.D.SharedDisk.state c.rest_if_any.new.disk) (g.D.SharedDisk.list c.args.disk.now) (g.D.SharedDisk.list c.loop-lock.disk) (g.D.SharedDisk.list c.rest_if_any.new.disk) c.args.node.now c.loop-lock.node c.rest_if_any.new.node c.loop-lock.invariant.came more) c.rest_if_any.ensures.home

pub returns-clause-stopped : goal.returns-clause-stopped
returns-clause-stopped g c =
    map_err c.rest_if_any.result _ _
    (λ why stops. stops_on (g.D.SharedDisk.state c.args.disk.now) (g.D.SharedDisk.state c.loop-lock.disk) (g.D.SharedDisk.state c.rest_if_any.new.disk) (g.D.SharedDisk.list c.args.disk.now) (g.D.SharedDisk.list c.loop-lock.disk) (g.D.SharedDisk.list c.rest_if_any.new.disk) c.args.node.now c.loop-lock.node c.rest_if_any.new.node.items.items why 0 0 (let same = ap (λ (x : LogValue). x.sequence) c.loop-lock.invariant.came.moves.log in omega (arith, same)) c.loop-lock.invariant.came.goes.steps c.loop-lock.invariant.came.goes.armed (moved_kept c.args.node.now c.loop-lock.node c.loop-lock.invariant.came.moves) stops) c.rest_if_any.ensures.stopped

pub rest_if_any-requires-clause-away : goal.rest_if_any-requires-clause-away
rest_if_any-requires-clause-away g c = c.next_lock.ensures.none c.in_default.is

pub returns-in-Err-clause-order : goal.returns-in-Err-clause-order
returns-in-Err-clause-order g c = so_far_on c.args.node.now c.loop-lock.node c.take_one.new.node.items.items c.loop-lock.invariant.came.order c.in-Err.ensures.order

pub returns-clause-order : goal.returns-clause-order
returns-clause-order g c =
    so_far_then c.args.node.now.log c.args.node.now.items.items c.loop-lock.node.items.items c.rest_if_any.new.node.items.items (so_far_order c.args.node.now c.loop-lock.node c.loop-lock.invariant.came.order) c.rest_if_any.ensures.homes

pub returns-clause-rests : goal.returns-clause-rests
returns-clause-rests g c =
    ok_map c.rest_if_any.result _ _
    (λ told. rests_due c.args.node.now.items.items c.loop-lock.node.items.items c.rest_if_any.new.node.items.items c.loop-lock.node.flying c.loop-lock.invariant.rests told) c.rest_if_any.ensures.told
