use Rattle.small_changes.proofs.Cutting.{cuts_are_small}
use Rattle.small_changes.proofs.cuts_write_few_blocks.Goals as goal

pub returns : goal.returns
returns c = cuts_are_small c.files_are_inodes.ensures.files
