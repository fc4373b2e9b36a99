use Rattle.head_laws.proofs.Telling.{heads-are-told}
use Rattle.head_laws.proofs.heads_are_told.Goals as goal

pub returns : goal.returns
returns c = heads-are-told
