use Rattle.draft_changes.proofs.Resized.{resizing_makes}
use Rattle.draft_changes.proofs.resizing.drafts_resize_files.Goals as goal

pub returns : goal.returns
returns c = resizing_makes
