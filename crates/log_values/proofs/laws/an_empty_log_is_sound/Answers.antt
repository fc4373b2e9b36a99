use Rattle.log_values.proofs.Keeping.{empty_sound}
use Rattle.log_values.proofs.laws.an_empty_log_is_sound.Goals as goal

pub returns : goal.returns
returns c = empty_sound
