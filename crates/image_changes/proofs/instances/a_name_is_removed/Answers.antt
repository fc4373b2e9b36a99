use Rattle.image_changes.proofs.NameRemoved.{name_is_removed}
use Rattle.image_changes.proofs.instances.a_name_is_removed.Goals as goal

pub returns : goal.returns
returns c = name_is_removed
