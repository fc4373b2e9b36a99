use Rattle.head_laws.proofs.Example.{can-live}
use Rattle.head_laws.proofs.a_journal_can_live.Goals as goal

pub returns : goal.returns
returns c = can-live
