use Rattle.group_locks.proofs.Locks.{held_groups_hold_the_list, first_group_lacks_are_first, blocks_of_groups_are_asked_for}
use Rattle.group_locks.proofs.laws.groups_take_their_locks.Goals as goal

pub returns-clause-held : goal.returns-clause-held
returns-clause-held c = held_groups_hold_the_list

pub returns-clause-lack : goal.returns-clause-lack
returns-clause-lack c = first_group_lacks_are_first

pub returns-clause-asked : goal.returns-clause-asked
returns-clause-asked c = blocks_of_groups_are_asked_for
