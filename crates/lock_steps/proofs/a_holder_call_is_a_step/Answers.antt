use Rattle.lock_steps.proofs.Holding.{holder-steps}
use Rattle.lock_steps.proofs.a_holder_call_is_a_step.Goals as goal

pub returns : goal.returns
returns c = holder-steps
