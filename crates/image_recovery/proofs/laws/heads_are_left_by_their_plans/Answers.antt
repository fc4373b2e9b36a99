use Rattle.image_recovery.proofs.LeftImage.{heads_left}
use Rattle.image_recovery.proofs.laws.heads_are_left_by_their_plans.Goals as goal

pub returns : goal.returns
returns c = heads_left c.headers_read_back.ensures
