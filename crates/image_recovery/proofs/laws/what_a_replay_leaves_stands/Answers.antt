use Rattle.image_recovery.proofs.LeftStanding.{left_stands, left_stands_by}
use Rattle.image_recovery.proofs.laws.what_a_replay_leaves_stands.Goals as goal

pub returns-clause-stands : goal.returns-clause-stands
returns-clause-stands c = left_stands c.places_of_journals_do_not_matter.ensures

pub returns-clause-by : goal.returns-clause-by
returns-clause-by c = left_stands_by c.places_of_journals_do_not_matter.ensures
