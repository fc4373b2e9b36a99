use Rattle.image_changes.proofs.Drafting.{own_locks}
use Rattle.image_changes.proofs.instances.inodes_have_their_own_locks.Goals as goal

pub returns : goal.returns
returns c = own_locks
