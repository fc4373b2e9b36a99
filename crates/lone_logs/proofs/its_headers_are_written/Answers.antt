use Rattle.lone_logs.proofs.Headed.{headers_are_written}
use Rattle.lone_logs.proofs.its_headers_are_written.Goals as goal

pub returns : goal.returns
returns c = headers_are_written c.headers_of_flushes_fly.ensures c.flushes_land.ensures
