use Rattle.call_locks.proofs.Elsewhere.{others_stay, names_stay}
use Rattle.call_locks.proofs.laws.what_stands_elsewhere_stays.Goals as goal

pub returns-clause-stays : goal.returns-clause-stays
returns-clause-stays c = others_stay

pub returns-clause-names : goal.returns-clause-names
returns-clause-names c = names_stay
