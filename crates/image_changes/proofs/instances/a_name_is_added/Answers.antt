use Rattle.image_changes.proofs.NameAdded.{name_is_added}
use Rattle.image_changes.proofs.instances.a_name_is_added.Goals as goal

pub returns : goal.returns
returns c = name_is_added
