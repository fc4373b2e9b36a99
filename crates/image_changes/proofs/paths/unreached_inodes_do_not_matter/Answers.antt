use Rattle.image_changes.proofs.FlatPaths.{unreached}
use Rattle.image_changes.proofs.paths.unreached_inodes_do_not_matter.Goals as goal

pub returns : goal.returns
returns c = unreached
