use Rattle.image_machine.proofs.Headlines.{every_image_cluster, every_image_run}
use Rattle.image_machine.proofs.every_run_over_images_is_right.Goals as goal

pub returns-clause-nodes : goal.returns-clause-nodes
returns-clause-nodes c = every_image_run

pub returns-clause-cluster : goal.returns-clause-cluster
returns-clause-cluster c = every_image_cluster
