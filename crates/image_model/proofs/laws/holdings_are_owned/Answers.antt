use Rattle.image_model.proofs.Held.{own_part, itself_own, pointed_owner, pointed_part, chained_owner, chained_part, block_same}
use Rattle.image_model.proofs.laws.holdings_are_owned.Goals as goal

pub returns : goal.returns
returns c = λ im owners. record {
  own = own_part im owners;
  itself = itself_own im owners;
  pointed = λ a b above k level first. (pointed_owner im owners a b above k level first, pointed_part im owners a b above k level first);
  chained = λ a b hash place. (chained_owner im owners a b hash place, chained_part im owners a b hash place);
  bytes = block_same im owners;
}
