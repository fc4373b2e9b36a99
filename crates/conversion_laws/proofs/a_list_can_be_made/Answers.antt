use Rattle.conversion_laws.proofs.Example.{can-be-made}
use Rattle.conversion_laws.proofs.a_list_can_be_made.Goals as goal

pub returns : goal.returns
returns c = can-be-made
