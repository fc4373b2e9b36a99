use Rattle.image_mount.proofs.ViewGroups.{as_seen}
use Rattle.image_mount.proofs.laws.mounted_groups_are_as_seen.Goals as goal

pub returns : goal.returns
returns c = as_seen
