use Rattle.image_recovery.proofs.LeftMounted.{left_is_mounted}
use Rattle.image_recovery.proofs.laws.what_was_mounted_is_mounted_of_what_is_left.Goals as goal

pub returns : goal.returns
returns c = left_is_mounted
