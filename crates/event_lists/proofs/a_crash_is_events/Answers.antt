use Rattle.event_lists.proofs.Stopping.{crash, crash_after}
use Rattle.event_lists.proofs.a_crash_is_events.Goals as goal

pub returns-clause-set : goal.returns-clause-set
returns-clause-set g c = crash _

pub returns-clause-after_write : goal.returns-clause-after_write
returns-clause-after_write g c = crash_after _
