use Rattle.demotion.proofs.Staging.{past}
use Rattle.demotion.proofs.laws.past_stages_are_done.Goals as goal

pub returns : goal.returns
returns c = past
