use Rattle.lock_steps.proofs.Exactly.{lowers-lower}
use Rattle.lock_steps.proofs.lowers_only_lower.Goals as goal

pub returns : goal.returns
returns c = lowers-lower
