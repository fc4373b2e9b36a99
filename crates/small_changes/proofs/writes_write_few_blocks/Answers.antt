use Rattle.small_changes.proofs.Writing.{writes_are_small}
use Rattle.small_changes.proofs.writes_write_few_blocks.Goals as goal

pub returns : goal.returns
returns c = writes_are_small c.files_are_inodes.ensures.files c.files_are_inodes.ensures.inodes
