use Rattle.group_locks.proofs.Locks.{groups_with_blocks_are_listed}
use Rattle.group_locks.proofs.laws.groups_have_places.Goals as goal

pub returns : goal.returns
returns c = groups_with_blocks_are_listed
