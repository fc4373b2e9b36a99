use Rattle.image_recovery.proofs.LeftMounting.{left_mounts}
use Rattle.image_recovery.proofs.laws.what_a_replay_leaves_mounts.Goals as goal

pub returns : goal.returns
returns c = left_mounts c.places_of_journals_do_not_matter.ensures
