use Rattle.image_changes.proofs.Finishing.{finish_makes}
use Rattle.image_changes.proofs.does.a_draft_is_finished.Goals as goal

pub returns : goal.returns
returns c = finish_makes
