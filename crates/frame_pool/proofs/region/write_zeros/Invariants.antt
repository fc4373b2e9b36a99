use Rattle.std.proofs.Common.{◌≡◌, ◌-◌}
use Rattle.frame_pool.proofs.Regions.{zeroed}
use Rattle.frame_pool.proofs.region.write_zeros.Given as goal

abbrev pub invariant-loop-index : goal.invariant-loop-index
invariant-loop-index l = (l.cells.at ≡ l.fn.cells.at) × (l.cells.slots ≡ zeroed l.index (l.len - l.index))
