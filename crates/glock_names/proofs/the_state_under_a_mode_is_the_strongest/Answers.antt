use Rattle.glock_names.proofs.StateLaws.{is-strongest-state}
use Rattle.glock_names.proofs.the_state_under_a_mode_is_the_strongest.Goals as goal

pub returns : goal.returns
returns c = is-strongest-state
