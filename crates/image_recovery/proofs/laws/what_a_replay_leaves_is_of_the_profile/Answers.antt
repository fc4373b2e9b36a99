use Rattle.image_recovery.proofs.LeftProfile.{left_is_of_profile}
use Rattle.image_recovery.proofs.laws.what_a_replay_leaves_is_of_the_profile.Goals as goal

pub returns : goal.returns
returns c = left_is_of_profile c.places_of_journals_do_not_matter.ensures c.an_image_has_one_layout.ensures
