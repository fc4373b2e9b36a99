use Rattle.demotion.proofs.Staging.{safe}
use Rattle.demotion.proofs.laws.release_is_safe.Goals as goal

pub returns : goal.returns
returns c = safe
