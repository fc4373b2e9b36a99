use Rattle.block_cache.proofs.Reaching.{left_with_lock}
use Rattle.block_cache.proofs.laws.cells_leave_with_their_lock.Goals as goal

pub returns : goal.returns
returns c = left_with_lock
