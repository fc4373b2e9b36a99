use Rattle.whole_runs.proofs.Telling.{runs_are_told}
use Rattle.whole_runs.proofs.runs_are_told.Goals as goal

pub returns : goal.returns
returns c = runs_are_told c.steps_are_told.ensures.told
