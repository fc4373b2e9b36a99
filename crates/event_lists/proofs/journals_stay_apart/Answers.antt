use Rattle.event_lists.proofs.Aparting.{rings-begin, rings-stay}
use Rattle.event_lists.proofs.journals_stay_apart.Goals as goal

pub returns-clause-begin : goal.returns-clause-begin
returns-clause-begin g c = rings-begin _

pub returns-clause-stay : goal.returns-clause-stay
returns-clause-stay g c = rings-stay _
