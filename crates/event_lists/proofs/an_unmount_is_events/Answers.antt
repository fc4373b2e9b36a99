use Rattle.event_lists.proofs.Homing.{unmounts}
use Rattle.event_lists.proofs.an_unmount_is_events.Goals as goal

pub returns : goal.returns
returns g c = unmounts _
