use Rattle.image_changes.proofs.States.{blocks_are_set}
use Rattle.image_changes.proofs.pieces.blocks_are_set.Goals as goal

pub returns : goal.returns
returns c = blocks_are_set
