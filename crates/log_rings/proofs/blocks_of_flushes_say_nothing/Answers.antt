use Rattle.log_rings.proofs.Laws.{blocks_say_nothing, flushes_fly}
use Rattle.log_rings.proofs.blocks_of_flushes_say_nothing.Goals as goal

pub returns-clause-fly : goal.returns-clause-fly
returns-clause-fly c = flushes_fly c.live_blocks_fit.ensures

pub returns-clause-nothing : goal.returns-clause-nothing
returns-clause-nothing c = blocks_say_nothing
