use Rattle.lone_answers.proofs.Working as working
use Rattle.lone_answers.proofs.laws.reading_keeps.Goals as goal

pub returns : goal.returns
returns c = working.reading_keeps
