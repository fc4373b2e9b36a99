use Rattle.glock_machine.proofs.Standing.{bars_nothing}
use Rattle.glock_machine.proofs.laws.called_downs_bar_nothing.Goals as goal

pub returns : goal.returns
returns c = bars_nothing
