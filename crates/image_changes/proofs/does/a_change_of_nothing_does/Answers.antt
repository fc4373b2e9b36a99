use Rattle.image_changes.proofs.Doing.{nothing_does}
use Rattle.image_changes.proofs.does.a_change_of_nothing_does.Goals as goal

pub returns : goal.returns
returns c = nothing_does
