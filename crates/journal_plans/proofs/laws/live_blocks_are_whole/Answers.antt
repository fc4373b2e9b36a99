use Rattle.journal_plans.proofs.WholeBlocks.{live_is_whole}
use Rattle.journal_plans.proofs.laws.live_blocks_are_whole.Goals as goal

pub returns : goal.returns
returns c = live_is_whole
