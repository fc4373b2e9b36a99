use Rattle.cluster_rows.proofs.Losing.{heads_marked, ended_marked, losses_marked}
use Rattle.cluster_rows.proofs.losses_count_from_heads.Goals as goal

pub returns-clause-heads : goal.returns-clause-heads
returns-clause-heads g c = heads_marked _

pub returns-clause-ended : goal.returns-clause-ended
returns-clause-ended g c = ended_marked _

pub returns-clause-losses : goal.returns-clause-losses
returns-clause-losses g c = losses_marked _
