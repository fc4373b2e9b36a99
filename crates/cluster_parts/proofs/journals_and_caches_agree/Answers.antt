use Rattle.cluster_parts.proofs.Parting.{parts}
use Rattle.cluster_parts.proofs.journals_and_caches_agree.Goals as goal

pub returns : goal.returns
returns g c = parts _
