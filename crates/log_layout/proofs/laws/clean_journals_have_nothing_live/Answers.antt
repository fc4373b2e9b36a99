use Rattle.log_layout.proofs.SamePlaces.{nothing_live}
use Rattle.log_layout.proofs.laws.clean_journals_have_nothing_live.Goals as goal

pub returns : goal.returns
returns c = nothing_live
