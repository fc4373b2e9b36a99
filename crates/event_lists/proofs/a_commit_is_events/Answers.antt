use Rattle.event_lists.proofs.Demoting.{commit}
use Rattle.event_lists.proofs.a_commit_is_events.Goals as goal

pub returns : goal.returns
returns g c = commit _
