use Rattle.logged_runs.proofs.Mounted.{mounted_is_at_rest}
use Rattle.logged_runs.proofs.mounted_images_are_at_rest.Goals as goal

pub returns : goal.returns
returns c = mounted_is_at_rest c.mounted_groups_are_as_seen.ensures c.mounted_images_stand_as_mounted.ensures
