use Rattle.logged_runs.proofs.Endings.{clean_runs_end, runs_end}
use Rattle.logged_runs.proofs.runs_end.Goals as goal

pub returns-clause-landed : goal.returns-clause-landed
returns-clause-landed c = runs_end c.steps_keep.ensures c.it_has_ended.ensures.landed

pub returns-clause-clean : goal.returns-clause-clean
returns-clause-clean c = clean_runs_end c.steps_keep.ensures c.it_has_ended.ensures.clean
