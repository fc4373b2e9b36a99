use Rattle.cluster_turns.proofs.Turning.{start-holds, held-right}
use Rattle.cluster_turns.proofs.what_holds_was_reached.Goals as goal

pub returns-clause-starts : goal.returns-clause-starts
returns-clause-starts g c = start-holds (g.P.TurnedParts.files) (g.P.TurnedParts.ties)

pub returns-clause-right : goal.returns-clause-right
returns-clause-right g c = held-right (g.P.TurnedParts.files) (g.P.TurnedParts.ties)
