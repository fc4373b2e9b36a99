use Rattle.head_laws.proofs.DirtyStart.{dirty-start-is-told}
use Rattle.head_laws.proofs.a_dirty_start_can_be_told.Goals as goal

pub returns : goal.returns
returns g c = dirty-start-is-told (g.T.TreeImages.images)
