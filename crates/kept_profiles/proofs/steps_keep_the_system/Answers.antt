use Rattle.kept_profiles.proofs.Steps.{steps_keep_the_system as they_keep_it}
use Rattle.kept_profiles.proofs.steps_keep_the_system.Goals as goal

pub returns : goal.returns
returns c = they_keep_it c.steps_keep.ensures c.what_remains_of_it.ensures.outcomes c.outcomes_are_the_machines.ensures
