use Rattle.logged_steps.proofs.Heads.{heads_are_told}
use Rattle.logged_steps.proofs.heads_are_told.Goals as goal

pub returns : goal.returns
returns c = heads_are_told
