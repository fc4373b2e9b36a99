use Rattle.demotion.proofs.Staging.{taken_up}
use Rattle.demotion.proofs.laws.cut_stages_are_taken_up.Goals as goal

pub returns : goal.returns
returns c = taken_up
