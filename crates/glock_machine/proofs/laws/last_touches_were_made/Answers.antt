use Rattle.glock_machine.proofs.Standing.{were_made}
use Rattle.glock_machine.proofs.laws.last_touches_were_made.Goals as goal

pub returns : goal.returns
returns c = were_made
