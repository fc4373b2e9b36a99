use Rattle.cluster_turns.proofs.Turning.{events_grow}
use Rattle.cluster_turns.proofs.events_grow.Goals as goal

pub returns : goal.returns
returns g c = events_grow (g.P.TurnedParts.files)
