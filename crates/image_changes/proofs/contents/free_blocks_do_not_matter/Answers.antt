use Rattle.image_changes.proofs.Unminded.{free_blocks_do_not_matter}
use Rattle.image_changes.proofs.contents.free_blocks_do_not_matter.Goals as goal

pub returns : goal.returns
returns c = free_blocks_do_not_matter
