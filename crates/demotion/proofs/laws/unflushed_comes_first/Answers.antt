use Rattle.demotion.proofs.Staging.{first}
use Rattle.demotion.proofs.laws.unflushed_comes_first.Goals as goal

pub returns : goal.returns
returns c = first
