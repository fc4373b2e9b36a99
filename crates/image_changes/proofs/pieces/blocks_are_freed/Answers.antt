use Rattle.image_changes.proofs.States.{blocks_are_freed}
use Rattle.image_changes.proofs.pieces.blocks_are_freed.Goals as goal

pub returns : goal.returns
returns c = blocks_are_freed
