use Rattle.log_values.proofs.Going.{settling_sound}
use Rattle.log_values.proofs.laws.settling_keeps.Goals as goal

pub returns : goal.returns
returns c = settling_sound
