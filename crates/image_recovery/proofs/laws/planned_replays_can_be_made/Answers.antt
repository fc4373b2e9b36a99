use Rattle.image_recovery.proofs.Recovered.{can_planned}
use Rattle.image_recovery.proofs.laws.planned_replays_can_be_made.Goals as goal

pub returns : goal.returns
returns c = can_planned
