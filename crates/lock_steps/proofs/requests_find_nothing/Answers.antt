use Rattle.lock_steps.proofs.Exactly.{requests-find}
use Rattle.lock_steps.proofs.requests_find_nothing.Goals as goal

pub returns : goal.returns
returns c = requests-find
