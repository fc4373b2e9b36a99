use Rattle.gfs2_layout.proofs.CutAfter.{told_gone, found_others_cut}
use Rattle.gfs2_layout.proofs.Exchanged.{found_no_more}
use Rattle.gfs2_layout.proofs.laws.cut_records_are_gone.Goals as goal

pub returns-clause-told : goal.returns-clause-told
returns-clause-told c = told_gone

pub returns-clause-others : goal.returns-clause-others
returns-clause-others c = λ old new at other here used cut. found_others_cut old new at here used cut other

pub returns-clause-gone : goal.returns-clause-gone
returns-clause-gone c = found_no_more
