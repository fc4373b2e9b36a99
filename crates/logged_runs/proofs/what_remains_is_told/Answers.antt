use Rattle.logged_runs.proofs.Laws.{fronts_stand, prefixes_stand, what_remains_is_told}
use Rattle.logged_runs.proofs.what_remains_is_told.Goals as goal

pub returns-clause-told : goal.returns-clause-told
returns-clause-told c = what_remains_is_told c.steps_keep.ensures c.failed_writes_keep.ensures c.heads_are_told.ensures c.steps_are_told.ensures.told c.what_remains_of_it.ensures.history c.what_remains_of_it.ensures.outcomes

pub returns-clause-fronts : goal.returns-clause-fronts
returns-clause-fronts c = fronts_stand c.steps_keep.ensures c.failed_writes_keep.ensures c.heads_are_told.ensures c.steps_are_told.ensures.told c.what_remains_of_it.ensures.history c.what_remains_of_it.ensures.outcomes
    c.steps_are_told.ensures.fronts

pub returns-clause-prefixes : goal.returns-clause-prefixes
returns-clause-prefixes c = prefixes_stand c.steps_keep.ensures c.failed_writes_keep.ensures c.heads_are_told.ensures c.steps_are_told.ensures.told c.what_remains_of_it.ensures.history c.what_remains_of_it.ensures.outcomes
    c.steps_are_told.ensures.fronts
