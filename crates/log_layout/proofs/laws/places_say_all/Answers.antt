use Rattle.log_layout.proofs.SamePlaces.{says_the_same}
use Rattle.log_layout.proofs.laws.places_say_all.Goals as goal

pub returns : goal.returns
returns c = says_the_same
