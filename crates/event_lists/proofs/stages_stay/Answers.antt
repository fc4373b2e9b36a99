use Rattle.event_lists.proofs.Staging.{stay}
use Rattle.event_lists.proofs.stages_stay.Goals as goal

pub returns : goal.returns
returns g c = stay _
