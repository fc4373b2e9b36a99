use Rattle.call_blocks.proofs.Replaying.{replays_may_change_it}
use Rattle.call_blocks.proofs.what_calls_write_a_replay_may_change.Goals as goal

pub returns : goal.returns
returns c = replays_may_change_it
