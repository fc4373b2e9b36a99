use Rattle.image_changes.proofs.FileChange.{file_changes}
use Rattle.image_changes.proofs.instances.a_file_changes.Goals as goal

pub returns : goal.returns
returns c = file_changes
