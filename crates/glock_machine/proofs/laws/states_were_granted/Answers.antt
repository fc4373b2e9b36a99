use Rattle.glock_machine.proofs.Standing.{were_granted}
use Rattle.glock_machine.proofs.laws.states_were_granted.Goals as goal

pub returns : goal.returns
returns c = were_granted
