use Rattle.head_laws.proofs.Remaining.{syncs-stand}
use Rattle.head_laws.proofs.syncs_stand.Goals as goal

pub returns : goal.returns
returns g c = syncs-stand (g.T.TreeImages.images)
