use Rattle.call_blocks.proofs.Replaying.{calls_keep_the_system as they_keep_it}
use Rattle.call_blocks.proofs.calls_keep_the_system.Goals as goal

pub returns : goal.returns
returns c = they_keep_it
