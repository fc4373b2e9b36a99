use Rattle.image_recovery.proofs.LeftImage.{replay_leaves}
use Rattle.image_recovery.proofs.laws.a_replay_leaves_its_image.Goals as goal

pub returns : goal.returns
returns c = replay_leaves c.headers_read_back.ensures
