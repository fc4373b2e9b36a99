use Rattle.image_changes.proofs.Drafting.{drafts_do}
use Rattle.image_changes.proofs.does.one_of_four_changes_does.Goals as goal

pub returns : goal.returns
returns c = drafts_do
