use Rattle.small_changes.proofs.NameNeed.{names_take_few}
use Rattle.small_changes.proofs.names_take_few_blocks.Goals as goal

pub returns : goal.returns
returns c = names_take_few
