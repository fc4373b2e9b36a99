use Rattle.std.proofs.Common.{◌≡◌, ℕ, None, [], cond, length}
use Rattle.std.specs.Prelude.{unwrap_or}
use Rattle.block_cache.specs.Shelving.{has}
use Rattle.block_cache.specs.Tie.{cell_at}
use Rattle.block_cache.proofs.cache.remove_all.Given as goal

abbrev pub invariant-loop-block : goal.invariant-loop-block
invariant-loop-block l = (b : ℕ) → cond (has (unwrap_or l.fn.shelf []) b) None (cell_at l.fn.cells.entries b) ≡ cond (has l.shelf b) None (cell_at l.cells.entries b)

abbrev pub decreases-loop-block : goal.decreases-loop-block
decreases-loop-block l = length l.shelf
