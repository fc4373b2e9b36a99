use Rattle.logged_runs.proofs.FencedHeads.{losses_go_by_heads}
use Rattle.logged_runs.proofs.Laws.{fences_are_told, stops_are_told}
use Rattle.logged_runs.proofs.stops_are_told.Goals as goal

pub returns-clause-stops : goal.returns-clause-stops
returns-clause-stops c = stops_are_told c.steps_keep.ensures c.failed_writes_keep.ensures c.heads_are_told.ensures c.steps_are_told.ensures.told c.what_remains_of_it.ensures.history c.what_remains_of_it.ensures.outcomes
    c.what_remains_at_its_end.ensures c.fences_leave_what_remains.ensures.rest

pub returns-clause-fences : goal.returns-clause-fences
returns-clause-fences c = fences_are_told c.steps_keep.ensures c.failed_writes_keep.ensures c.heads_are_told.ensures c.steps_are_told.ensures.told c.what_remains_of_it.ensures.history c.what_remains_of_it.ensures.outcomes
    c.what_remains_at_its_end.ensures c.fences_leave_what_remains.ensures.rest c.fences_leave_outcomes.ensures

pub returns-clause-heads : goal.returns-clause-heads
returns-clause-heads c = losses_go_by_heads c.steps_keep.ensures c.failed_writes_keep.ensures c.heads_are_told.ensures c.steps_are_told.ensures.told c.what_remains_of_it.ensures.history
