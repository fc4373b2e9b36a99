use Rattle.lock_steps.proofs.Granting.{grants-wait}
use Rattle.lock_steps.proofs.grants_wait.Goals as goal

pub returns : goal.returns
returns c = grants-wait
