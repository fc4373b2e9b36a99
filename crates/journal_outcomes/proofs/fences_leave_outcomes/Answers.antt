use Rattle.journal_outcomes.proofs.Settled.{fences_leave_outcomes}
use Rattle.journal_outcomes.proofs.fences_leave_outcomes.Goals as goal

pub returns : goal.returns
returns c = fences_leave_outcomes
