use Rattle.dlm_master.proofs.BlockLaws.{none-while-blocked}
use Rattle.dlm_master.proofs.none_is_granted_while_blocked.Goals as goal

pub returns : goal.returns
returns c = none-while-blocked
