use Rattle.lone_logs.proofs.Remaining.{its_history_is_legal, its_outcomes_stand}
use Rattle.lone_logs.proofs.what_remains_of_it.Goals as goal

pub returns-clause-outcomes : goal.returns-clause-outcomes
returns-clause-outcomes c = its_outcomes_stand c.outcomes_are_the_machines.ensures c.what_is_left_of_one_node_stands.ensures

pub returns-clause-history : goal.returns-clause-history
returns-clause-history c = its_history_is_legal
