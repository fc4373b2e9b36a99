use Rattle.lone_logs.proofs.Ending.{last_barriers_land}
use Rattle.lone_logs.proofs.its_flushes_land.Goals as goal

pub returns : goal.returns
returns c = last_barriers_land c.outcomes_are_the_machines.ensures c.headers_of_flushes_fly.ensures c.flushes_land.ensures
