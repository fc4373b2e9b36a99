use Rattle.dlm_master.proofs.RunLaws.{grants-keep-together}
use Rattle.dlm_master.proofs.grants_keep_together.Goals as goal

pub returns : goal.returns
returns c = grants-keep-together
