use Rattle.image_recovery.proofs.Crashing.{crashed_are_failed}
use Rattle.image_recovery.proofs.laws.crashed_replays_are_as_failed.Goals as goal

pub returns : goal.returns
returns c = crashed_are_failed
