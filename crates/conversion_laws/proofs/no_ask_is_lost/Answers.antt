use Rattle.conversion_laws.proofs.Listing.{no-ask-is-lost}
use Rattle.conversion_laws.proofs.no_ask_is_lost.Goals as goal

pub returns : goal.returns
returns c = no-ask-is-lost
