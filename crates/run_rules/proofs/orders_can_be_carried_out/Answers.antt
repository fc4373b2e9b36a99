use Rattle.run_rules.proofs.CarriedOut.{all_placed, follows}
use Rattle.run_rules.proofs.orders_can_be_carried_out.Goals as goal

pub returns : goal.returns
returns c = (follows, all_placed)
