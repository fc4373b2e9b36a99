use Rattle.command_words.proofs.OrderLaws.{may_change_places}
use Rattle.command_words.proofs.laws.options_may_change_places.Goals as goal

pub returns : goal.returns
returns c = may_change_places
