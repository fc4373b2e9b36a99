use Rattle.conversion_laws.proofs.Listing.{holders-rise}
use Rattle.conversion_laws.proofs.holders_rise_by_grants.Goals as goal

pub returns : goal.returns
returns c = holders-rise
