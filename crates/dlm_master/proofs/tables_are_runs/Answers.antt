use Rattle.dlm_master.proofs.RunTables.{tables-are-runs}
use Rattle.dlm_master.proofs.tables_are_runs.Goals as goal

pub returns : goal.returns
returns c = tables-are-runs
