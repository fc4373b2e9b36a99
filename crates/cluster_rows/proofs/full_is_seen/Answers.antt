use Rattle.cluster_rows.proofs.Rowing.{views_seen, calm_stays, held_stays}
use Rattle.cluster_rows.proofs.full_is_seen.Goals as goal

pub returns-clause-seen : goal.returns-clause-seen
returns-clause-seen g c = views_seen _

pub returns-clause-calm : goal.returns-clause-calm
returns-clause-calm g c = calm_stays _

pub returns-clause-held : goal.returns-clause-held
returns-clause-held g c = held_stays _
