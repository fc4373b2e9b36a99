use Rattle.call_locks.proofs.Paths.{lie_on_paths}
use Rattle.call_locks.proofs.laws.wants_lie_on_paths.Goals as goal

pub returns : goal.returns
returns c = lie_on_paths
