use Rattle.std.proofs.Common.{◌≤◌, length}
use Rattle.gfs2_layout.proofs.Places.{IsBetween}
use Rattle.gfs2_layout.proofs.cutting.last_place.Given as goal

abbrev pub invariant-loop-behind : goal.invariant-loop-behind
invariant-loop-behind l = record { place : IsBetween l.area l.at l.rest; some : 1 ≤ length l.rest }

abbrev pub decreases-loop-behind : goal.decreases-loop-behind
decreases-loop-behind l = length l.rest
