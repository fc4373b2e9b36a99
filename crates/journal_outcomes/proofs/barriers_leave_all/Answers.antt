use Rattle.journal_outcomes.proofs.Settled.{barriers_leave_all}
use Rattle.journal_outcomes.proofs.barriers_leave_all.Goals as goal

pub returns : goal.returns
returns c = barriers_leave_all
