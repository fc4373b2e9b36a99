use Rattle.cut_replays.proofs.FailedReplays.{failed_replays_stand}
use Rattle.cut_replays.proofs.failed_replays_stand.Goals as goal

pub returns : goal.returns
returns c = failed_replays_stand c.headers_read_back.ensures
