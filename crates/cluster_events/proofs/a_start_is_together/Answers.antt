use Rattle.cluster_events.proofs.Eventing.{starts_together}
use Rattle.cluster_events.proofs.a_start_is_together.Goals as goal

pub returns : goal.returns
returns g c = starts_together _
