use Rattle.image_changes.proofs.Walks.{paths_end}
use Rattle.image_changes.proofs.paths.paths_end_with_a_name.Goals as goal

pub returns : goal.returns
returns c = paths_end
