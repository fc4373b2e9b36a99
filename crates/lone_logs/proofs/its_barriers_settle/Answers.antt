use Rattle.lone_logs.proofs.Settling.{barriers_settle, first_barriers_settle}
use Rattle.lone_logs.proofs.its_barriers_settle.Goals as goal

pub returns-clause-settles : goal.returns-clause-settles
returns-clause-settles c = barriers_settle c.outcomes_are_the_machines.ensures

pub returns-clause-first : goal.returns-clause-first
returns-clause-first c = first_barriers_settle c.outcomes_are_the_machines.ensures
