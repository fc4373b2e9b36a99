use Rattle.image_changes.proofs.States.{groups_stay}
use Rattle.image_changes.proofs.pieces.untouched_groups_stay.Goals as goal

pub returns : goal.returns
returns c = groups_stay
