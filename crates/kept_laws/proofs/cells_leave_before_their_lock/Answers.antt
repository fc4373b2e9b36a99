use Rattle.kept_laws.proofs.Fitting.{none_unlocked, none_plain}
use Rattle.kept_laws.proofs.cells_leave_before_their_lock.Goals as goal

pub returns-clause-unlocked : goal.returns-clause-unlocked
returns-clause-unlocked c = none_unlocked

pub returns-clause-deferred : goal.returns-clause-deferred
returns-clause-deferred c = none_plain
