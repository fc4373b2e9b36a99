use Rattle.run_rules.proofs.Heads.{recoveries}
use Rattle.run_rules.proofs.recoveries_are_told.Goals as goal

pub returns : goal.returns
returns c = recoveries
