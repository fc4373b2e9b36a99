use Rattle.draft_changes.proofs.Saying.{free_blocks_are_new}
use Rattle.draft_changes.proofs.resizing.free_blocks_are_new.Goals as goal

pub returns : goal.returns
returns c = free_blocks_are_new
