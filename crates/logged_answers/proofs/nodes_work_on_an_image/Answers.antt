use Rattle.logged_answers.proofs.Working.{nodes_work_on_an_image}
use Rattle.logged_answers.proofs.nodes_work_on_an_image.Goals as goal

pub returns : goal.returns
returns c = nodes_work_on_an_image
