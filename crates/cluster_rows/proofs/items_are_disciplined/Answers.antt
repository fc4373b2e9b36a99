use Rattle.cluster_rows.proofs.Rowing.{rows_hold, clean_row}
use Rattle.cluster_rows.proofs.items_are_disciplined.Goals as goal

pub returns-clause-rows : goal.returns-clause-rows
returns-clause-rows g c = rows_hold _

pub returns-clause-clean : goal.returns-clause-clean
returns-clause-clean g c = clean_row _
