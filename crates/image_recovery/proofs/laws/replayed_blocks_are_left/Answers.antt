use Rattle.image_recovery.proofs.Left.{replayed_is_left}
use Rattle.image_recovery.proofs.laws.replayed_blocks_are_left.Goals as goal

pub returns : goal.returns
returns c = replayed_is_left
