use Rattle.event_lists.proofs.Homing.{demotion, flushed_release}
use Rattle.event_lists.proofs.a_demotion_is_events.Goals as goal

pub returns-clause-whole : goal.returns-clause-whole
returns-clause-whole g c = demotion _

pub returns-clause-flushed : goal.returns-clause-flushed
returns-clause-flushed g c = flushed_release _
