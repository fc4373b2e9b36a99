use Rattle.lone_runs.proofs.Runs.{runs_stand}
use Rattle.lone_runs.proofs.laws.runs_stand.Goals as goal

pub returns : goal.returns
returns c = runs_stand c.replays_leave_a_disk_at_rest.ensures c.whole_runs_stand.ensures c.runs_are_told.ensures c.runs_stand_at_each_front.ensures c.starts_stand_at_each_front.ensures.some c.starts_stand_at_each_front.ensures.failed
    c.crashed_replays_are_as_failed.ensures c.places_say_all.ensures
