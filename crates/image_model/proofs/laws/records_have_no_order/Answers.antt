use Rattle.image_model.proofs.Order.{any_order, child_any_order}
use Rattle.image_model.proofs.laws.records_have_no_order.Goals as goal

pub returns : goal.returns
returns c = λ rs ss order heads owners a d is. (any_order rs ss order heads owners a d is, child_any_order rs ss order is.once)
