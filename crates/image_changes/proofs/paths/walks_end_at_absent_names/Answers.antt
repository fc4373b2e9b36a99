use Rattle.image_changes.proofs.Walks.{walks_end}
use Rattle.image_changes.proofs.paths.walks_end_at_absent_names.Goals as goal

pub returns : goal.returns
returns c = walks_end
