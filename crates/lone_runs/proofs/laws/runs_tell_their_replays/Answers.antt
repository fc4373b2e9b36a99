use Rattle.lone_runs.proofs.Telling.{runs_tell_their_replays}
use Rattle.lone_runs.proofs.laws.runs_tell_their_replays.Goals as goal

pub returns : goal.returns
returns c = runs_tell_their_replays
