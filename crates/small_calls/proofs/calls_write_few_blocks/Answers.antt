use Rattle.small_calls.proofs.Calls.{calls_are_small}
use Rattle.small_calls.proofs.calls_write_few_blocks.Goals as goal

pub returns : goal.returns
returns g c = calls_are_small g.V.View.seen c.files_are_inodes.ensures.files c.files_are_inodes.ensures.inodes
