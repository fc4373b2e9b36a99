use Rattle.cluster_parts.proofs.Stopping.{every_set, all_published}
use Rattle.cluster_parts.proofs.every_set_may_stop.Goals as goal

pub returns-clause-right : goal.returns-clause-right
returns-clause-right g c = every_set _

pub returns-clause-published : goal.returns-clause-published
returns-clause-published g c = all_published _
