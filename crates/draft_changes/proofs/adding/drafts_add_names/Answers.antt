use Rattle.draft_changes.proofs.Added.{adding_makes}
use Rattle.draft_changes.proofs.adding.drafts_add_names.Goals as goal

pub returns : goal.returns
returns c = adding_makes
