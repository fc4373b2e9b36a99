use Rattle.image_recovery.proofs.Ending.{replayed_have_ended}
use Rattle.image_recovery.proofs.laws.replayed_journals_have_ended.Goals as goal

pub returns : goal.returns
returns c = replayed_have_ended
