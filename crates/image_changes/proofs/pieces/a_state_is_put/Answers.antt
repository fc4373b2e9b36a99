use Rattle.image_changes.proofs.States.{state_is_put}
use Rattle.image_changes.proofs.pieces.a_state_is_put.Goals as goal

pub returns : goal.returns
returns c = state_is_put
