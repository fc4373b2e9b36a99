use Rattle.image_model.proofs.Replaying.{one_replayed_tree}
use Rattle.image_model.proofs.Unique.{one_tree}
use Rattle.image_model.proofs.laws.replayed_images_stand_for_one_tree.Goals as goal

pub returns : goal.returns
returns c = one_replayed_tree one_tree
