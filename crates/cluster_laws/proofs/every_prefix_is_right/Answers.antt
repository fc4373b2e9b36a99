use Rattle.cluster_laws.proofs.Remaining.{prefix_clause}
use Rattle.cluster_laws.proofs.every_prefix_is_right.Goals as goal

pub returns : goal.returns
returns g c = prefix_clause _
