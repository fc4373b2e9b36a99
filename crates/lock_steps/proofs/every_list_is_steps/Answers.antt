use Rattle.lock_steps.proofs.Listing.{list-steps}
use Rattle.lock_steps.proofs.every_list_is_steps.Goals as goal

pub returns : goal.returns
returns c = list-steps
