use Rattle.lock_steps.proofs.Exactly.{reports-find}
use Rattle.lock_steps.proofs.reports_find_a_rebuild.Goals as goal

pub returns : goal.returns
returns c = reports-find
