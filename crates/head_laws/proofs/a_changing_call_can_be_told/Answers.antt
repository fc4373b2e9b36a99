use Rattle.head_laws.proofs.Changing.{changing-call-is-told}
use Rattle.head_laws.proofs.a_changing_call_can_be_told.Goals as goal

pub returns : goal.returns
returns c = changing-call-is-told
