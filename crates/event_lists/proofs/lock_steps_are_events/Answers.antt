use Rattle.event_lists.proofs.Calling.{lock_steps_fit}
use Rattle.event_lists.proofs.lock_steps_are_events.Goals as goal

pub returns : goal.returns
returns g c = lock_steps_fit _
