use Rattle.whole_runs.proofs.StartFronts.{failed_starts_stand, starts_stand}
use Rattle.whole_runs.proofs.starts_stand_at_each_front.Goals as goal

pub returns-clause-some : goal.returns-clause-some
returns-clause-some c = starts_stand c.failed_replays_stand.ensures c.stopped_replays_stand.ensures c.fences_leave_outcomes.ensures

pub returns-clause-failed : goal.returns-clause-failed
returns-clause-failed c = failed_starts_stand c.failed_replays_stand.ensures c.stopped_replays_stand.ensures c.fences_leave_outcomes.ensures
