use Rattle.directory_changes.proofs.Grown.{growing_makes}
use Rattle.directory_changes.proofs.growing.drafts_grow_directories.Goals as goal

pub returns : goal.returns
returns c = growing_makes
