use Rattle.std.proofs.Common.{ℕ, ◌≤◌, ◌<◌}
use Rattle.logged_node.specs.Homing.{GoesHomeward, RestsSoFar, waiting}
use Rattle.logged_node.proofs.homing.go_home.Given as goal

abbrev pub invariant-loop-lock : goal.invariant-loop-lock
invariant-loop-lock g l = record {
  came : GoesHomeward (g.D.SharedDisk.state l.fn.disk) (g.D.SharedDisk.list l.fn.disk) l.fn.node (g.D.SharedDisk.state l.disk) (g.D.SharedDisk.list l.disk) l.node;
  few : l.node.flying < 512;
  rests : RestsSoFar l.fn.node.items.items l.node.items.items l.node.flying;
  later : (i : ℕ) → g.D.SharedDisk.faults l.fn.disk i ≤ g.D.SharedDisk.faults l.disk i;
}

abbrev pub decreases-loop-lock : goal.decreases-loop-lock
decreases-loop-lock g l = waiting l.node.log
