use Rattle.image_changes.proofs.Inside.{stay_inside}
use Rattle.image_changes.proofs.does.drafts_stay_inside.Goals as goal

pub returns : goal.returns
returns c = stay_inside
