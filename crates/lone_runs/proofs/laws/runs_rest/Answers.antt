use Rattle.lone_runs.proofs.Resting.{runs_rest}
use Rattle.lone_runs.proofs.laws.runs_rest.Goals as goal

pub returns : goal.returns
returns c = runs_rest
