use Rattle.image_changes.proofs.NameMoved.{name_is_moved}
use Rattle.image_changes.proofs.instances.a_name_is_moved.Goals as goal

pub returns : goal.returns
returns c = name_is_moved
