use Rattle.small_changes.proofs.Removing.{removals_are_small}
use Rattle.small_changes.proofs.removals_write_few_blocks.Goals as goal

pub returns : goal.returns
returns g c = removals_are_small g.V.View.seen
