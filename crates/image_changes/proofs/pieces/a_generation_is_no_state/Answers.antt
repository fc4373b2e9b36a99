use Rattle.image_changes.proofs.States.{other_generation}
use Rattle.image_changes.proofs.pieces.a_generation_is_no_state.Goals as goal

pub returns : goal.returns
returns c = other_generation
