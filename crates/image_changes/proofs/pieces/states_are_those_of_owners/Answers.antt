use Rattle.image_changes.proofs.States.{table_says}
use Rattle.image_changes.proofs.pieces.states_are_those_of_owners.Goals as goal

pub returns : goal.returns
returns c = table_says
