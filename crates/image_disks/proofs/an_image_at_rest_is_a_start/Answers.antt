use Rattle.image_disks.proofs.Lone.{images_begin_at_rest}
use Rattle.image_disks.proofs.an_image_at_rest_is_a_start.Goals as goal

pub returns : goal.returns
returns c = images_begin_at_rest
