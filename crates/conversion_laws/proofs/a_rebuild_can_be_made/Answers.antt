use Rattle.conversion_laws.proofs.Example.{rebuild-can-be-made}
use Rattle.conversion_laws.proofs.a_rebuild_can_be_made.Goals as goal

pub returns : goal.returns
returns c = rebuild-can-be-made
