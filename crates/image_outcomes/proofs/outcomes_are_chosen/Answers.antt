use Rattle.image_outcomes.proofs.Outcomes.{outcomes_are_chosen}
use Rattle.image_outcomes.proofs.outcomes_are_chosen.Goals as goal

pub returns : goal.returns
returns c = outcomes_are_chosen
