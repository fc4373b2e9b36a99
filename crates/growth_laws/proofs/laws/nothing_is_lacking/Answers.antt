use Rattle.growth_laws.proofs.Lacking.{nothing_is_lacking}
use Rattle.growth_laws.proofs.laws.nothing_is_lacking.Goals as goal

pub returns : goal.returns
returns c = nothing_is_lacking
