use Rattle.block_cache.proofs.Reaching.{shown}
use Rattle.block_cache.proofs.laws.last_put_is_shown.Goals as goal

pub returns : goal.returns
returns c = shown
