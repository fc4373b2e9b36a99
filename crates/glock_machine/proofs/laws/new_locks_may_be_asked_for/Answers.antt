use Rattle.glock_machine.proofs.Standing.{new_are_free}
use Rattle.glock_machine.proofs.laws.new_locks_may_be_asked_for.Goals as goal

pub returns : goal.returns
returns c = new_are_free
