use Rattle.call_blocks.proofs.Lone.{its_blocks_may_change}
use Rattle.call_blocks.proofs.what_one_node_writes_a_replay_may_change.Goals as goal

pub returns : goal.returns
returns c = its_blocks_may_change
