use Rattle.draft_changes.proofs.Puts.{states_are_put, groups_stay_put}
use Rattle.draft_changes.proofs.groups.groups_are_put.Goals as goal

pub returns-clause-states : goal.returns-clause-states
returns-clause-states c = states_are_put

pub returns-clause-stay : goal.returns-clause-stay
returns-clause-stay c = groups_stay_put
