use Rattle.script_laws.proofs.FirstWrong.{first_wrong}
use Rattle.script_laws.proofs.first_wrong_word_is_told.Goals as goal

pub returns : goal.returns
returns c = first_wrong
