use Rattle.cluster_rows.proofs.Asking.{grants_asked}
use Rattle.cluster_rows.proofs.grants_are_asked.Goals as goal

pub returns : goal.returns
returns g c = grants_asked _
