use Rattle.lock_steps.proofs.Membering.{member-steps}
use Rattle.lock_steps.proofs.a_member_call_is_steps.Goals as goal

pub returns : goal.returns
returns c = member-steps
