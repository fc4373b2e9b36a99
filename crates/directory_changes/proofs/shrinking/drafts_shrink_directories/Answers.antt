use Rattle.directory_changes.proofs.Shrunk.{shrinking_makes}
use Rattle.directory_changes.proofs.shrinking.drafts_shrink_directories.Goals as goal

pub returns : goal.returns
returns c = shrinking_makes
