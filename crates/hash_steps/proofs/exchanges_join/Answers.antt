use Rattle.hash_steps.proofs.Joins.{joined}
use Rattle.hash_steps.proofs.exchanges_join.Goals as goal

pub returns : goal.returns
returns c = joined
