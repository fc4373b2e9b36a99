use Rattle.kept_laws.proofs.Fitting.{dropped_all, dropped_plain, shared_fits}
use Rattle.kept_laws.proofs.drops_let_locks_go.Goals as goal

pub returns-clause-unlocked : goal.returns-clause-unlocked
returns-clause-unlocked c = dropped_all

pub returns-clause-deferred : goal.returns-clause-deferred
returns-clause-deferred c = dropped_plain

pub returns-clause-shared : goal.returns-clause-shared
returns-clause-shared c = shared_fits
