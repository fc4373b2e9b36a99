use Rattle.std.proofs.Common.{◌≡◌}
use Rattle.frame_pool.specs.Places.{somes}
use Rattle.frame_pool.proofs.Regions.{emptied}
use Rattle.frame_pool.proofs.region.read_all.Given as goal

abbrev pub invariant-loop-index : goal.invariant-loop-index
invariant-loop-index l = (l.cells.at ≡ l.fn.cells.at) × (l.cells.slots ≡ emptied l.index (somes l.fn.cells.slots))
