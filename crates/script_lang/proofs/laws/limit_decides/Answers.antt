use Rattle.script_lang.proofs.LimitLaws.{limit_decides}
use Rattle.script_lang.proofs.laws.limit_decides.Goals as goal

pub returns : goal.returns
returns c = limit_decides
