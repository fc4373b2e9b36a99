use Rattle.head_laws.proofs.Tracing.{losses-right}
use Rattle.head_laws.proofs.losses_are_right.Goals as goal

pub returns : goal.returns
returns g c = losses-right (g.T.TreeImages.images)
