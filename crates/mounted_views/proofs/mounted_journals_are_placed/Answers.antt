use Rattle.mounted_views.proofs.Journals.{mounted_journals_are_placed}
use Rattle.mounted_views.proofs.mounted_journals_are_placed.Goals as goal

pub returns : goal.returns
returns c = mounted_journals_are_placed
