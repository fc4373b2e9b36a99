use Rattle.image_model.proofs.Facts.{claims_used}
use Rattle.image_model.proofs.Reach.{used_claim}
use Rattle.image_model.proofs.Rows.{claim_row}
use Rattle.image_model.proofs.laws.owners_claim_their_blocks.Goals as goal

pub returns : goal.returns
returns c = λ im owners l laid b o. ((λ way. (claim_row im owners l laid way.0 b o way.1, claims_used im way.0 b o way.1)), (λ has. used_claim im owners l laid b o has.0 has.1))
