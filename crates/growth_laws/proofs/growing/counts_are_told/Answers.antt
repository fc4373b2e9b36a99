use Rattle.growth_laws.proofs.Told.{counts_are_told}
use Rattle.growth_laws.proofs.growing.counts_are_told.Goals as goal

pub returns : goal.returns
returns c = counts_are_told
