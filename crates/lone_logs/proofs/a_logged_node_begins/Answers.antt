use Rattle.lone_logs.proofs.Starting.{node_begins}
use Rattle.lone_logs.proofs.a_logged_node_begins.Goals as goal

pub returns : goal.returns
returns c = node_begins c.clean_rings_begin.ensures
