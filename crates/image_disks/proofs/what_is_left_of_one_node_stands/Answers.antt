use Rattle.image_disks.proofs.Lone.{lone_outcomes_stand}
use Rattle.image_disks.proofs.what_is_left_of_one_node_stands.Goals as goal

pub returns : goal.returns
returns c = lone_outcomes_stand
