use Rattle.whole_runs.proofs.Running.{whole_runs_stand}
use Rattle.whole_runs.proofs.whole_runs_stand.Goals as goal

pub returns : goal.returns
returns c = whole_runs_stand c.headers_read_back.ensures c.failed_replays_stand.ensures c.stopped_replays_stand.ensures c.fences_leave_outcomes.ensures c.steps_are_told.ensures.told c.a_run_begins.ensures
    c.what_remains_is_told.ensures.told c.what_remains_is_told.ensures.fronts c.ends_are_told.ensures c.stops_are_told.ensures.stops c.stops_are_told.ensures.fences c.stops_are_told.ensures.heads c.its_heads_are_there.ensures
