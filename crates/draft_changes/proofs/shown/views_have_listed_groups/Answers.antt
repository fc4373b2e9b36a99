use Rattle.draft_changes.proofs.Views.{groups_are_listed}
use Rattle.draft_changes.proofs.shown.views_have_listed_groups.Goals as goal

pub returns : goal.returns
returns c = groups_are_listed
