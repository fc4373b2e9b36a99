use Rattle.cluster_turns.proofs.Stopping.{counts_are_ties}
use Rattle.cluster_turns.proofs.all_may_crash.Goals as goal

pub returns : goal.returns
returns g c = λ nodes. counts_are_ties (g.P.TurnedParts.files) nodes
