use Rattle.draft_changes.proofs.Rewritten.{rewriting_makes}
use Rattle.draft_changes.proofs.rewriting.drafts_change_files.Goals as goal

pub returns : goal.returns
returns c = rewriting_makes
