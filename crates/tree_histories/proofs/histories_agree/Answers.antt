use Rattle.tree_histories.proofs.Joining.{agree}
use Rattle.tree_histories.proofs.histories_agree.Goals as goal

pub returns : goal.returns
returns g c = agree (g.T.TreeImages.images)
