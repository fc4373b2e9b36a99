use Rattle.cluster_turns.proofs.Turning.{cluster-turns}
use Rattle.cluster_turns.proofs.turns_keep.Goals as goal

pub returns : goal.returns
returns g c = cluster-turns (g.P.TurnedParts.files) (g.P.TurnedParts.ties)
