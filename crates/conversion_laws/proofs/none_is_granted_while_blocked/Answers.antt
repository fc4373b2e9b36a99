use Rattle.conversion_laws.proofs.Listing.{none-while-blocked}
use Rattle.conversion_laws.proofs.none_is_granted_while_blocked.Goals as goal

pub returns : goal.returns
returns c = none-while-blocked
