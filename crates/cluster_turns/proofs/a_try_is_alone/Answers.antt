use Rattle.cluster_turns.proofs.Turning.{tries_alone}
use Rattle.cluster_turns.proofs.a_try_is_alone.Goals as goal

pub returns : goal.returns
returns g c = tries_alone (g.P.TurnedParts.files)
