use Rattle.lone_runs.proofs.Silent.{runs_are_legal}
use Rattle.lone_runs.proofs.laws.runs_are_legal.Goals as goal

pub returns : goal.returns
returns c = runs_are_legal c.replays_leave_a_disk_at_rest.ensures c.its_calls_are_counted.ensures c.a_run_begins.ensures c.crashed_replays_are_as_failed.ensures
