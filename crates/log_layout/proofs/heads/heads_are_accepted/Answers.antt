use Rattle.log_layout.proofs.BestHeaders.{head_there}
use Rattle.log_layout.proofs.heads.heads_are_accepted.Goals as goal

pub returns : goal.returns
returns c = head_there
