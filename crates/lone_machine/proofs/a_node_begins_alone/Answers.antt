use Rattle.lone_machine.proofs.Going.{begins_alone}
use Rattle.lone_machine.proofs.a_node_begins_alone.Goals as goal

pub returns : goal.returns
returns g c = begins_alone (g.S.LoneSystem.files)
