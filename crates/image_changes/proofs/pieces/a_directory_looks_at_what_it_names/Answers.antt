use Rattle.image_changes.proofs.Directories.{looks_at_names}
use Rattle.image_changes.proofs.pieces.a_directory_looks_at_what_it_names.Goals as goal

pub returns : goal.returns
returns c = looks_at_names
