use Rattle.lock_steps.proofs.Example.{can-be-made}
use Rattle.lock_steps.proofs.a_list_can_be_made.Goals as goal

pub returns : goal.returns
returns c = can-be-made
