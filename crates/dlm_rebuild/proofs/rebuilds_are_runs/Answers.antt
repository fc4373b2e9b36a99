use Rattle.dlm_rebuild.proofs.RebuildTables.{rebuilds-are-runs}
use Rattle.dlm_rebuild.proofs.rebuilds_are_runs.Goals as goal

pub returns : goal.returns
returns c = rebuilds-are-runs
