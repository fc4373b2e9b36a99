use Rattle.glock_machine.proofs.Standing.{stand_apart}
use Rattle.glock_machine.proofs.laws.locks_stand_apart.Goals as goal

pub returns : goal.returns
returns c = stand_apart
