use Rattle.logged_runs.proofs.Counting.{calls_are_counted}
use Rattle.logged_runs.proofs.its_calls_are_counted.Goals as goal

pub returns : goal.returns
returns c = calls_are_counted c.steps_keep.ensures c.what_remains_of_it.ensures.history
