use Rattle.conversion_laws.proofs.Listing.{grants-bring-the-value}
use Rattle.conversion_laws.proofs.grants_bring_the_value.Goals as goal

pub returns : goal.returns
returns c = grants-bring-the-value
