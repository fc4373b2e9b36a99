use Rattle.cluster_parts.proofs.Flying.{writers_hold}
use Rattle.cluster_parts.proofs.headers_fly_alone.Goals as goal

pub returns : goal.returns
returns g c = writers_hold _
