use Rattle.head_laws.proofs.Happening.{telling-is-step}
use Rattle.head_laws.proofs.telling_is_a_step.Goals as goal

pub returns : goal.returns
returns g c = telling-is-step (g.T.TreeImages.images)
