use Rattle.whole_runs.proofs.Starting.{failed_fronts_stand, failed_replays_are_told, nothing_at_all, replay_fronts_stand}
use Rattle.whole_runs.proofs.fronts_of_starts_stand.Goals as goal

pub returns-clause-nothing : goal.returns-clause-nothing
returns-clause-nothing c = nothing_at_all

pub returns-clause-replays : goal.returns-clause-replays
returns-clause-replays c = replay_fronts_stand c.failed_replays_stand.ensures c.stopped_replays_stand.ensures c.fences_leave_outcomes.ensures

pub returns-clause-failed : goal.returns-clause-failed
returns-clause-failed c = failed_fronts_stand c.failed_replays_stand.ensures c.stopped_replays_stand.ensures c.fences_leave_outcomes.ensures

pub returns-clause-left : goal.returns-clause-left
returns-clause-left c = failed_replays_are_told c.failed_replays_stand.ensures c.fences_leave_outcomes.ensures
