use Rattle.head_laws.proofs.Happening.{fronts-passed}
use Rattle.head_laws.proofs.fronts_are_passed.Goals as goal

pub returns : goal.returns
returns g c = fronts-passed (g.T.TreeImages.images)
