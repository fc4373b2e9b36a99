use Rattle.cluster_events.proofs.Eventing.{event_is_steps}
use Rattle.cluster_events.proofs.an_event_is_steps.Goals as goal

pub returns : goal.returns
returns g c = event_is_steps _
