use Rattle.glock_machine.proofs.Standing.{touches_stay}
use Rattle.glock_machine.proofs.laws.touches_are_kept.Goals as goal

pub returns : goal.returns
returns c = touches_stay
