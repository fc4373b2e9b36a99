use Rattle.log_values.proofs.Changing.{change_sound}
use Rattle.log_values.proofs.laws.a_change_keeps.Goals as goal

pub returns : goal.returns
returns c = change_sound
