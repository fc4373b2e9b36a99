use Rattle.head_laws.proofs.Recoveries.{start-slots-open}
use Rattle.head_laws.proofs.start_slots_stay_open.Goals as goal

pub returns : goal.returns
returns g c = start-slots-open (g.T.TreeImages.images)
