use Rattle.image_changes.proofs.Laid.{stays_laid}
use Rattle.image_changes.proofs.instances.a_small_change_stays_laid.Goals as goal

pub returns : goal.returns
returns c = stays_laid
