use Rattle.growth_laws.proofs.Sizes.{sizes_resize}
use Rattle.growth_laws.proofs.laws.sizes_resize.Goals as goal

pub returns : goal.returns
returns c = sizes_resize
