use Rattle.std.proofs.Common.{◌≡◌, ℕ, ◌≤◌}
use Rattle.logged_node.specs.Flushing.{HasBegun, steps_left}
use Rattle.logged_node.specs.Homing.{homes_in}
use Rattle.logged_node.proofs.flushing.flush.Given as goal

abbrev pub invariant-loop-disk : goal.invariant-loop-disk
invariant-loop-disk g l = record {
  begun : HasBegun (g.D.SharedDisk.state l.fn.disk) (g.D.SharedDisk.list l.fn.disk) l.fn.node (g.D.SharedDisk.state l.disk) (g.D.SharedDisk.list l.disk) l.node;
  homes : homes_in l.node.items.items ≡ homes_in l.fn.node.items.items;
  later : (i : ℕ) → g.D.SharedDisk.faults l.fn.disk i ≤ g.D.SharedDisk.faults l.disk i;
}

abbrev pub decreases-loop-disk : goal.decreases-loop-disk
decreases-loop-disk g l = steps_left l.node.log
