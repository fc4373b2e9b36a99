use Rattle.lone_ends.proofs.Blocks.{clean_blocks_are_last}
use Rattle.lone_ends.proofs.clean_blocks_are_last.Goals as goal

pub returns : goal.returns
returns c = clean_blocks_are_last
