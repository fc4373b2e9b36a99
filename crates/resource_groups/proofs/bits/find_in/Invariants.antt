use Rattle.std.proofs.Common.{◌-◌, ◌≤◌}
use Rattle.resource_groups.specs.Finding.{NoneFrom}
use Rattle.resource_groups.proofs.bits.find_in.Given as goal

abbrev pub invariant-loop-place : goal.invariant-loop-place
invariant-loop-place l = record {
  low : l.from ≤ l.place;
  none : NoneFrom l.bits l.from l.place;
}

abbrev pub decreases-loop-place : goal.decreases-loop-place
decreases-loop-place l = l.end - l.place
