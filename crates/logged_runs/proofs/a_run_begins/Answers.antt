use Rattle.logged_runs.proofs.Starting.{runs_begin_so}
use Rattle.logged_runs.proofs.a_run_begins.Goals as goal

pub returns : goal.returns
returns c = runs_begin_so c.runs_begin.ensures
