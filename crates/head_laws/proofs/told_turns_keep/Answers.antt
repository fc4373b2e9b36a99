use Rattle.head_laws.proofs.Turns.{told-turns}
use Rattle.head_laws.proofs.told_turns_keep.Goals as goal

pub returns : goal.returns
returns g c = told-turns (g.P.ToldParts.images) (g.P.ToldParts.clients) (g.P.ToldParts.ties)
