use Rattle.lock_steps.proofs.Exactly.{ends-find}
use Rattle.lock_steps.proofs.ends_find_a_rebuild.Goals as goal

pub returns : goal.returns
returns c = ends-find
