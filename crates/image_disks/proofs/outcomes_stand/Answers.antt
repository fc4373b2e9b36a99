use Rattle.image_disks.proofs.Standing.{outcomes_stand as they_stand}
use Rattle.image_disks.proofs.outcomes_stand.Goals as goal

pub returns : goal.returns
returns c = they_stand
