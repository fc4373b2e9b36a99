use Rattle.demotion.proofs.Staging.{in_order}
use Rattle.demotion.proofs.laws.stages_come_in_order.Goals as goal

pub returns : goal.returns
returns c = in_order
