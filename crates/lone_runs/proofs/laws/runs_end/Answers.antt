use Rattle.lone_runs.proofs.Ended.{runs_end}
use Rattle.lone_runs.proofs.laws.runs_end.Goals as goal

pub returns : goal.returns
returns c = runs_end c.replays_leave_a_disk_at_rest.ensures c.a_run_begins.ensures c.steps_keep.ensures c.runs_end.ensures.landed c.runs_end.ensures.clean
