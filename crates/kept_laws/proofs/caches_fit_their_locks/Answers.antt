use Rattle.kept_laws.proofs.Fitting.{all_fit, none_fit}
use Rattle.kept_laws.proofs.caches_fit_their_locks.Goals as goal

pub returns-clause-kept : goal.returns-clause-kept
returns-clause-kept c = all_fit

pub returns-clause-begun : goal.returns-clause-begun
returns-clause-begun c = none_fit
