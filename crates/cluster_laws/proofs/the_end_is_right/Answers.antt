use Rattle.cluster_laws.proofs.Remaining.{at_the_end, image_at_the_end}
use Rattle.cluster_laws.proofs.the_end_is_right.Goals as goal

pub returns-clause-replayed : goal.returns-clause-replayed
returns-clause-replayed g c = at_the_end _

pub returns-clause-image : goal.returns-clause-image
returns-clause-image g c = image_at_the_end _
