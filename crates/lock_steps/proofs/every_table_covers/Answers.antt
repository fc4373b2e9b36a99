use Rattle.lock_steps.proofs.Running.{table-covers}
use Rattle.lock_steps.proofs.every_table_covers.Goals as goal

pub returns : goal.returns
returns c = table-covers
