use Rattle.image_mount.proofs.Layouts.{as_mounted}
use Rattle.image_mount.proofs.laws.mounted_images_stand_as_mounted.Goals as goal

pub returns : goal.returns
returns c = as_mounted
