use Rattle.lone_logs.proofs.Homing.{blocks_go_home}
use Rattle.lone_logs.proofs.its_live_blocks_go_home.Goals as goal

pub returns : goal.returns
returns c = blocks_go_home
