use Rattle.run_rules.proofs.Nothing.{nothing_follows, nothing_is_legal}
use Rattle.run_rules.proofs.nothing_is_a_history.Goals as goal

pub returns-clause-history : goal.returns-clause-history
returns-clause-history c = nothing_follows

pub returns-clause-legal : goal.returns-clause-legal
returns-clause-legal c = nothing_is_legal
