use Rattle.lone_machine.proofs.Logging.{settles_alone, writes_alone}
use Rattle.lone_machine.proofs.its_blocks_go_home.Goals as goal

pub returns-clause-writes : goal.returns-clause-writes
returns-clause-writes g c = writes_alone (g.S.LoneSystem.files)

pub returns-clause-settles : goal.returns-clause-settles
returns-clause-settles g c = settles_alone (g.S.LoneSystem.files)
