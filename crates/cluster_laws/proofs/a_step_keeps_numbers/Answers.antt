use Rattle.cluster_laws.proofs.Numbering.{numbers_keep}
use Rattle.cluster_laws.proofs.a_step_keeps_numbers.Goals as goal

pub returns : goal.returns
returns g c = numbers_keep _
