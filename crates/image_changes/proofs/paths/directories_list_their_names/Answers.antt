use Rattle.image_changes.proofs.DirectoryNames.{directories_list}
use Rattle.image_changes.proofs.paths.directories_list_their_names.Goals as goal

pub returns : goal.returns
returns c = directories_list
