use Rattle.head_laws.proofs.Joined.{joined-early}
use Rattle.head_laws.proofs.a_journal_can_be_joined_early.Goals as goal

pub returns : goal.returns
returns c = joined-early
