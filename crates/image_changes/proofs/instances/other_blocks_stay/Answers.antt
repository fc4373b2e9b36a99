use Rattle.image_changes.proofs.Frame.{others_stay}
use Rattle.image_changes.proofs.instances.other_blocks_stay.Goals as goal

pub returns : goal.returns
returns c = others_stay
