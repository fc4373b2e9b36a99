use Rattle.gfs2_layout.proofs.Spelled.{spelled_area}
use Rattle.gfs2_layout.proofs.laws.areas_are_their_records.Goals as goal

pub returns : goal.returns
returns c = spelled_area
