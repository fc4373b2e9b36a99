use Rattle.logged_steps.proofs.Failing.{failed_writes_keep}
use Rattle.logged_steps.proofs.failed_writes_keep.Goals as goal

pub returns : goal.returns
returns c = failed_writes_keep c.steps_keep.ensures
