use Rattle.call_locks.proofs.Changes.{only_changes, readers_share}
use Rattle.call_locks.proofs.laws.nothing_else_is_wanted_exclusive.Goals as goal

pub returns-clause-only : goal.returns-clause-only
returns-clause-only c = only_changes

pub returns-clause-readers : goal.returns-clause-readers
returns-clause-readers c = readers_share
