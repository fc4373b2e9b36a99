use Rattle.event_lists.proofs.Homing.{home_events, home_at_home}
use Rattle.event_lists.proofs.home_writes_are_events.Goals as goal

pub returns-clause-home : goal.returns-clause-home
returns-clause-home g c = home_events _

pub returns-clause-at_home : goal.returns-clause-at_home
returns-clause-at_home g c = home_at_home _
