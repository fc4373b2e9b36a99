use Rattle.gfs2_layout.proofs.Exchanged.{comes, goes, put_area, cut_area}
use Rattle.gfs2_layout.proofs.laws.areas_exchange_records.Goals as goal

pub returns-clause-put : goal.returns-clause-put
returns-clause-put c = λ old new entry name is of put area. (put_area entry name of old new is put area, comes old new entry name of put)

pub returns-clause-cut : goal.returns-clause-cut
returns-clause-cut c = λ old new at is here used cut area. (cut_area old new at is here cut area, goes old new at here used cut)
