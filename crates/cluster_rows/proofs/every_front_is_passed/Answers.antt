use Rattle.cluster_rows.proofs.Marking.{fronts}
use Rattle.cluster_rows.proofs.every_front_is_passed.Goals as goal

pub returns : goal.returns
returns g c = fronts _
