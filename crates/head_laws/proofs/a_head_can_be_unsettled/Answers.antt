use Rattle.head_laws.proofs.Unsettled.{unsettled}
use Rattle.head_laws.proofs.a_head_can_be_unsettled.Goals as goal

pub returns : goal.returns
returns c = unsettled
