use Rattle.cluster_history.proofs.Legal.{goes_on}
use Rattle.cluster_history.proofs.legal_goes_on.Goals as goal

pub returns : goal.returns
returns c = goes_on
