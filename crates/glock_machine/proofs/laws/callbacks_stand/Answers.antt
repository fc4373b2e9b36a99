use Rattle.glock_machine.proofs.Standing.{calls_stand}
use Rattle.glock_machine.proofs.laws.callbacks_stand.Goals as goal

pub returns : goal.returns
returns c = calls_stand
