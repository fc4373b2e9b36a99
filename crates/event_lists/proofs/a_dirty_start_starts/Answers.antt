use Rattle.event_lists.proofs.Beginning.{dirty_start}
use Rattle.event_lists.proofs.a_dirty_start_starts.Goals as goal

pub returns : goal.returns
returns g c = dirty_start _
