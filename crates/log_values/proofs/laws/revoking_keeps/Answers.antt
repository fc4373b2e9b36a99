use Rattle.log_values.proofs.Homing.{revoking_sound}
use Rattle.log_values.proofs.laws.revoking_keeps.Goals as goal

pub returns : goal.returns
returns c = revoking_sound
