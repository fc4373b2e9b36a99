use Rattle.cut_replays.proofs.Stopped.{stopped_replays_stand}
use Rattle.cut_replays.proofs.stopped_replays_stand.Goals as goal

pub returns : goal.returns
returns c = stopped_replays_stand c.headers_read_back.ensures
