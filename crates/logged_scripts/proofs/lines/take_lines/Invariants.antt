use Rattle.std.proofs.Common.{◌≤◌, ℕ}
use Rattle.logged_calls.specs.Nodes.{point_of}
use Rattle.logged_scripts.specs.Beginning.{IsUnderWay}
use Rattle.logged_scripts.proofs.lines.take_lines.Given as goal

abbrev pub invariant-loop-place : goal.invariant-loop-place
invariant-loop-place g l = record {
  under_way : IsUnderWay l.script l.stamp.time (point_of (g.D.SharedDisk.state l.initial.disk) (g.D.SharedDisk.list l.initial.disk) l.initial.node) l.place (g.D.SharedDisk.state l.disk) (g.D.SharedDisk.list l.disk) l.node;
  later : (i : ℕ) → g.D.SharedDisk.faults l.initial.disk i ≤ g.D.SharedDisk.faults l.disk i;
}
