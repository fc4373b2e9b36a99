use Rattle.image_changes.proofs.Directories.{other_parent}
use Rattle.image_changes.proofs.pieces.a_directory_gets_another_parent.Goals as goal

pub returns : goal.returns
returns c = other_parent
