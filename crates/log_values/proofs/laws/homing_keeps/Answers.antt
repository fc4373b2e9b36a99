use Rattle.log_values.proofs.Homing.{homing_sound}
use Rattle.log_values.proofs.laws.homing_keeps.Goals as goal

pub returns : goal.returns
returns c = homing_sound
