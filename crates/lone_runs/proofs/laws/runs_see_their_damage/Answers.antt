use Rattle.lone_runs.proofs.Telling.{runs_see_their_damage}
use Rattle.lone_runs.proofs.laws.runs_see_their_damage.Goals as goal

pub returns : goal.returns
returns c = runs_see_their_damage
