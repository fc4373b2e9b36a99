use Rattle.cluster_events.proofs.Eventing.{event_keeps}
use Rattle.cluster_events.proofs.an_event_keeps.Goals as goal

pub returns : goal.returns
returns g c = event_keeps _
