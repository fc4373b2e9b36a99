use Rattle.gfs2_layout.proofs.Exchanged.{first_record, first_has_name}
use Rattle.gfs2_layout.proofs.laws.records_are_found_by_name.Goals as goal

pub returns-clause-first : goal.returns-clause-first
returns-clause-first c = first_record

pub returns-clause-named : goal.returns-clause-named
returns-clause-named c = first_has_name
