use Rattle.cluster_history.proofs.Changing.{others_leave}
use Rattle.cluster_history.proofs.other_calls_leave_the_tree.Goals as goal

pub returns : goal.returns
returns c = others_leave
