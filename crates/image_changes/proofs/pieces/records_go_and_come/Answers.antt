use Rattle.image_changes.proofs.Directories.{records_go_and_come}
use Rattle.image_changes.proofs.pieces.records_go_and_come.Goals as goal

pub returns : goal.returns
returns c = records_go_and_come
