use Rattle.call_locks.proofs.Changes.{all_exclusive, all_changes}
use Rattle.call_locks.proofs.laws.changed_inodes_are_wanted_exclusive.Goals as goal

pub returns-clause-exclusive : goal.returns-clause-exclusive
returns-clause-exclusive c = all_exclusive

pub returns-clause-changed : goal.returns-clause-changed
returns-clause-changed c = all_changes
