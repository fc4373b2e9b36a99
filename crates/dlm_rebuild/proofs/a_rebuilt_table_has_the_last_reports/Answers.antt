use Rattle.dlm_rebuild.proofs.RunLaws.{rebuilt}
use Rattle.dlm_rebuild.proofs.a_rebuilt_table_has_the_last_reports.Goals as goal

pub returns : goal.returns
returns c = rebuilt
