use Rattle.glock_machine.proofs.Standing.{bars_asks}
use Rattle.glock_machine.proofs.laws.uncalled_downs_bar_asks.Goals as goal

pub returns : goal.returns
returns c = bars_asks
