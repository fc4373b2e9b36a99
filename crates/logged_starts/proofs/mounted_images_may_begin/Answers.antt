use Rattle.logged_starts.proofs.Starting.{mounted_may_begin}
use Rattle.logged_starts.proofs.mounted_images_may_begin.Goals as goal

pub returns : goal.returns
returns c = mounted_may_begin c.mounted_groups_are_as_seen.ensures c.mounted_journals_are_placed.ensures
