use Rattle.conversion_laws.proofs.Listing.{messages-meet}
use Rattle.conversion_laws.proofs.messages_meet_calls.Goals as goal

pub returns : goal.returns
returns c = messages-meet
