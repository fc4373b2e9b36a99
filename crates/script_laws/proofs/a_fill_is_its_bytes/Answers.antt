use Rattle.script_laws.proofs.WordsBack.{fill-back}
use Rattle.script_laws.proofs.a_fill_is_its_bytes.Goals as goal

pub returns : goal.returns
returns c = fill-back
