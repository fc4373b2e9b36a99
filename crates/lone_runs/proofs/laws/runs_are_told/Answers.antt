use Rattle.lone_runs.proofs.Told.{runs_are_told}
use Rattle.lone_runs.proofs.laws.runs_are_told.Goals as goal

pub returns : goal.returns
returns c = runs_are_told
