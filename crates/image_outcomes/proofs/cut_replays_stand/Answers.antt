use Rattle.image_outcomes.proofs.CutShort.{cut_replays_stand}
use Rattle.image_outcomes.proofs.cut_replays_stand.Goals as goal

pub returns : goal.returns
returns c = cut_replays_stand
