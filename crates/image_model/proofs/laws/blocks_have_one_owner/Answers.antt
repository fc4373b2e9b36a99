use Rattle.image_model.proofs.Table.{owners_same}
use Rattle.image_model.proofs.laws.blocks_have_one_owner.Goals as goal

pub returns : goal.returns
returns c = owners_same
