use Rattle.std.proofs.Common.{length}
use Rattle.leaf_areas.proofs.Packing.{IsPacking}
use Rattle.leaf_areas.proofs.moving.pack.Given as goal

abbrev pub invariant-loop-record : goal.invariant-loop-record
invariant-loop-record l = IsPacking l.part l.from l.into l.at l.last.head l.last.name.now l.rest l.count

abbrev pub decreases-loop-record : goal.decreases-loop-record
decreases-loop-record l = length l.rest
