use Rattle.lock_steps.proofs.Running.{compatible}
use Rattle.lock_steps.proofs.every_run_is_compatible.Goals as goal

pub returns : goal.returns
returns c = compatible
