use Rattle.image_recovery.proofs.Recovered.{can_writable}
use Rattle.image_recovery.proofs.laws.writable_plans_can_be_replayed.Goals as goal

pub returns : goal.returns
returns c = can_writable
