use Rattle.lock_steps.proofs.Listing.{list-right}
use Rattle.lock_steps.proofs.every_list_is_right.Goals as goal

pub returns : goal.returns
returns c = list-right
