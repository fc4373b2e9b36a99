use Rattle.log_values.proofs.Going.{flush_sound}
use Rattle.log_values.proofs.laws.a_flush_keeps.Goals as goal

pub returns : goal.returns
returns c = flush_sound
