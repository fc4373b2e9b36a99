use Rattle.damage_laws.proofs.Mounted.{mounted_are_read}
use Rattle.damage_laws.proofs.telling.views_may_be_read_from_mounted_images.Goals as goal

pub returns : goal.returns
returns c = mounted_are_read
