use Rattle.glock_machine.proofs.Standing.{want_stands}
use Rattle.glock_machine.proofs.laws.wants_stand.Goals as goal

pub returns : goal.returns
returns c = want_stands
