use Rattle.machine_outcomes.proofs.Outcomes.{outcomes_are_the_machines as they_are}
use Rattle.machine_outcomes.proofs.outcomes_are_the_machines.Goals as goal

pub returns : goal.returns
returns c = they_are
