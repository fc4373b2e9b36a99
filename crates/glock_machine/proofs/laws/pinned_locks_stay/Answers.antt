use Rattle.glock_machine.proofs.Standing.{pinned_stay}
use Rattle.glock_machine.proofs.laws.pinned_locks_stay.Goals as goal

pub returns : goal.returns
returns c = pinned_stay
