use Rattle.log_rings.proofs.Laws.{headers_fly}
use Rattle.log_rings.proofs.headers_of_flushes_fly.Goals as goal

pub returns : goal.returns
returns c = headers_fly c.live_blocks_fit.ensures
