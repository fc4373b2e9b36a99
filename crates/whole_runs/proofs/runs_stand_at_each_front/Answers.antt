use Rattle.whole_runs.proofs.RunFronts.{runs_stand_at_each_front}
use Rattle.whole_runs.proofs.runs_stand_at_each_front.Goals as goal

pub returns : goal.returns
returns c = runs_stand_at_each_front c.its_calls_are_counted.ensures c.steps_are_told.ensures.told c.a_run_begins.ensures
