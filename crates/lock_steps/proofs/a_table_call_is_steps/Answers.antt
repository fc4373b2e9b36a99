use Rattle.lock_steps.proofs.Turning.{table-steps}
use Rattle.lock_steps.proofs.a_table_call_is_steps.Goals as goal

pub returns : goal.returns
returns c = table-steps
