use Rattle.journal_outcomes.proofs.Outcomes.{outcomes_say_one}
use Rattle.journal_outcomes.proofs.outcomes_say_one.Goals as goal

pub returns : goal.returns
returns c = outcomes_say_one
