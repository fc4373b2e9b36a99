use Rattle.hash_steps.proofs.Lengthened.{lengthened_stays}
use Rattle.hash_steps.proofs.added_leaves_stay.Goals as goal

pub returns : goal.returns
returns c h g i b sound hashed low longer = lengthened_stays h g i b sound hashed longer
