use Rattle.image_model.proofs.Reached.{broken_reached}
use Rattle.image_model.proofs.laws.broken_blocks_are_reached.Goals as goal

pub returns : goal.returns
returns c = broken_reached
