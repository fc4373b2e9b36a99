use Rattle.lock_steps.proofs.Membering.{move-all}
use Rattle.lock_steps.proofs.a_member_call_moves_all_locks.Goals as goal

pub returns : goal.returns
returns c = move-all
