use Rattle.image_journals.proofs.Replays.{share}
use Rattle.image_journals.proofs.laws.standing_replays_share_their_system.Goals as goal

pub returns : goal.returns
returns c = share
