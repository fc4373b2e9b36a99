use Rattle.conversion_laws.proofs.Listing.{views-follow}
use Rattle.conversion_laws.proofs.views_follow.Goals as goal

pub returns : goal.returns
returns c = views-follow
