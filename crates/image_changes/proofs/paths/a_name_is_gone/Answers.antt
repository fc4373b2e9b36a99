use Rattle.image_changes.proofs.FlatPaths.{name_gone}
use Rattle.image_changes.proofs.paths.a_name_is_gone.Goals as goal

pub returns : goal.returns
returns c = name_gone
