use Rattle.image_changes.proofs.Frame.{untouched_stay}
use Rattle.image_changes.proofs.instances.untouched_inodes_stay.Goals as goal

pub returns : goal.returns
returns c = untouched_stay
