use Rattle.event_lists.proofs.Stopping.{fence}
use Rattle.event_lists.proofs.a_fence_is_events.Goals as goal

pub returns : goal.returns
returns g c = fence _
