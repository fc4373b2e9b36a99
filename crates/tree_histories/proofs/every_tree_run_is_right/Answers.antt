use Rattle.tree_histories.proofs.Joining.{every_tree_run, every_tree_cluster}
use Rattle.tree_histories.proofs.every_tree_run_is_right.Goals as goal

pub returns-clause-nodes : goal.returns-clause-nodes
returns-clause-nodes g c = every_tree_run (g.T.TreeImages.images)

pub returns-clause-cluster : goal.returns-clause-cluster
returns-clause-cluster g c = every_tree_cluster (g.T.TreeImages.images)
