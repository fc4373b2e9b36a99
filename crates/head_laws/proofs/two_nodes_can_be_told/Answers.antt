use Rattle.head_laws.proofs.TwoNodes.{two-nodes-are-told}
use Rattle.head_laws.proofs.two_nodes_can_be_told.Goals as goal

pub returns : goal.returns
returns g c = two-nodes-are-told (g.T.TreeImages.images)
