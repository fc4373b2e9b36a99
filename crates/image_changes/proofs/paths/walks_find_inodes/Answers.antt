use Rattle.image_changes.proofs.Walks.{walks_find}
use Rattle.image_changes.proofs.paths.walks_find_inodes.Goals as goal

pub returns : goal.returns
returns c = walks_find
