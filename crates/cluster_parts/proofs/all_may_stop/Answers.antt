use Rattle.cluster_parts.proofs.Stopping.{all_stop}
use Rattle.cluster_parts.proofs.all_may_stop.Goals as goal

pub returns : goal.returns
returns g c = all_stop _
