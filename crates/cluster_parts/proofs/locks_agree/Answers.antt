use Rattle.cluster_parts.proofs.Parting.{lock_parts}
use Rattle.cluster_parts.proofs.locks_agree.Goals as goal

pub returns : goal.returns
returns g c = lock_parts _
