use Rattle.lone_images.proofs.Calling.{images_begin}
use Rattle.lone_images.proofs.a_node_begins_on_an_image.Goals as goal

pub returns : goal.returns
returns c = images_begin
