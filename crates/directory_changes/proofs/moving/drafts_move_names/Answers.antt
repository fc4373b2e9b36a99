use Rattle.directory_changes.proofs.Moved.{moving_makes}
use Rattle.directory_changes.proofs.moving.drafts_move_names.Goals as goal

pub returns : goal.returns
returns c = moving_makes
