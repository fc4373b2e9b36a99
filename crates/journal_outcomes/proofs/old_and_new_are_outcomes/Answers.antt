use Rattle.journal_outcomes.proofs.Outcomes.{old_and_new}
use Rattle.journal_outcomes.proofs.old_and_new_are_outcomes.Goals as goal

pub returns : goal.returns
returns c = old_and_new
