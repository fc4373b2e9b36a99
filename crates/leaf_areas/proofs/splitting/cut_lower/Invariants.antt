use Rattle.std.proofs.Common.{◌-◌, length}
use Rattle.leaf_areas.proofs.Cuts.{IsCutting}
use Rattle.leaf_areas.proofs.splitting.cut_lower.Given as goal

abbrev pub invariant-loop-record : goal.invariant-loop-record
invariant-loop-record l = IsCutting l.depth l.fn.old l.old l.at l.upper

abbrev pub decreases-loop-record : goal.decreases-loop-record
decreases-loop-record l = length l.old - l.at
