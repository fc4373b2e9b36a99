use Rattle.draft_changes.proofs.Removed.{removing_makes}
use Rattle.draft_changes.proofs.removing.drafts_remove_names.Goals as goal

pub returns : goal.returns
returns c = removing_makes
