use Rattle.glock_machine.proofs.Standing.{pin_back}
use Rattle.glock_machine.proofs.laws.pins_are_counted.Goals as goal

pub returns : goal.returns
returns c = pin_back
