use Rattle.logged_steps.proofs.Beginning.{runs_begin}
use Rattle.logged_steps.proofs.runs_begin.Goals as goal

pub returns : goal.returns
returns c = runs_begin c.a_logged_node_begins.ensures c.its_disk_may_change_alike.ensures.start
