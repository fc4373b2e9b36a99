use Rattle.lone_runs.proofs.Silent.{nothing_is_written}
use Rattle.lone_runs.proofs.laws.nothing_is_written.Goals as goal

pub returns : goal.returns
returns c = nothing_is_written
