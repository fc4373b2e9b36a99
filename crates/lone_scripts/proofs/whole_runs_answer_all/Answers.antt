use Rattle.lone_scripts.proofs.Runs.{whole_lone_runs_answer}
use Rattle.lone_scripts.proofs.whole_runs_answer_all.Goals as goal

pub returns : goal.returns
returns c = whole_lone_runs_answer
