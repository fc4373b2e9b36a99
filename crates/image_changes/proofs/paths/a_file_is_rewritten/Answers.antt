use Rattle.image_changes.proofs.FlatPaths.{file_rewritten}
use Rattle.image_changes.proofs.paths.a_file_is_rewritten.Goals as goal

pub returns : goal.returns
returns c = file_rewritten
