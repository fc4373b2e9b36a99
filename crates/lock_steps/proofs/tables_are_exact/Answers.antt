use Rattle.lock_steps.proofs.Exactly.{tables-exact}
use Rattle.lock_steps.proofs.tables_are_exact.Goals as goal

pub returns : goal.returns
returns c = tables-exact
