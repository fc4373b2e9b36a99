use Rattle.conversion_laws.proofs.Listing.{every-list}
use Rattle.conversion_laws.proofs.every_list_is_right.Goals as goal

pub returns : goal.returns
returns c = every-list
