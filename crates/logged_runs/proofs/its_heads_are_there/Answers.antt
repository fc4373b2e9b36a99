use Rattle.logged_runs.proofs.Laws.{heads_are_there}
use Rattle.logged_runs.proofs.its_heads_are_there.Goals as goal

pub returns : goal.returns
returns c = heads_are_there c.steps_keep.ensures c.failed_writes_keep.ensures c.heads_are_told.ensures c.steps_are_told.ensures.told c.what_remains_of_it.ensures.history c.what_remains_of_it.ensures.outcomes
    c.what_remains_at_its_end.ensures c.fences_leave_what_remains.ensures.rest
