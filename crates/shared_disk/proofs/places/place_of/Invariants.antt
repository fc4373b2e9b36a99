use Rattle.std.proofs.Common.{◌-◌, ◌≤◌, length}
use Rattle.shared_disk.specs.Places.{AreBelow, AreNotBelow}
use Rattle.shared_disk.proofs.places.place_of.Given as goal

abbrev pub invariant-loop-low : goal.invariant-loop-low
invariant-loop-low l = record {
  order : l.low ≤ l.high;
  within : l.high ≤ length l.places;
  below : AreBelow l.places l.low l.block;
  above : AreNotBelow l.places l.high l.block;
}

abbrev pub decreases-loop-low : goal.decreases-loop-low
decreases-loop-low l = l.high - l.low
