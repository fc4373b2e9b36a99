use Rattle.head_laws.proofs.Recoveries.{recoveries-told}
use Rattle.head_laws.proofs.recoveries_are_told.Goals as goal

pub returns : goal.returns
returns g c = recoveries-told (g.T.TreeImages.images)
