use Rattle.cluster_history.proofs.Living.{lives_on}
use Rattle.cluster_history.proofs.living_goes_on.Goals as goal

pub returns : goal.returns
returns c = lives_on
