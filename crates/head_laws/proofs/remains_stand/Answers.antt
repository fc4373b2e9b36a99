use Rattle.head_laws.proofs.Remaining.{remains-stand}
use Rattle.head_laws.proofs.remains_stand.Goals as goal

pub returns : goal.returns
returns g c = remains-stand (g.T.TreeImages.images)
