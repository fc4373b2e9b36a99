use Rattle.lone_ends.proofs.Fencing.{fences_leave_ends, fences_leave_what_remains, images_at_rest_stay}
use Rattle.lone_ends.proofs.fences_leave_what_remains.Goals as goal

pub returns-clause-running : goal.returns-clause-running
returns-clause-running c = fences_leave_what_remains c.fences_leave_outcomes.ensures c.what_remains_of_it.ensures.outcomes

pub returns-clause-ending : goal.returns-clause-ending
returns-clause-ending c = fences_leave_ends c.fences_leave_outcomes.ensures c.what_remains_at_its_end.ensures

pub returns-clause-rest : goal.returns-clause-rest
returns-clause-rest c = images_at_rest_stay
