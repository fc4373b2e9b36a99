use Rattle.image_changes.proofs.Finishing.{drafts_show}
use Rattle.image_changes.proofs.does.drafts_show_what_they_put.Goals as goal

pub returns : goal.returns
returns c = drafts_show
