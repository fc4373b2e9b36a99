use Rattle.image_model.proofs.Nothing.{nothing_breaks}
use Rattle.image_model.proofs.laws.what_stands_breaks_nothing.Goals as goal

pub returns : goal.returns
returns c = nothing_breaks
