use Rattle.cluster_events.proofs.Eventing.{every_cluster}
use Rattle.cluster_events.proofs.every_cluster_is_right.Goals as goal

pub returns : goal.returns
returns g c = every_cluster _
