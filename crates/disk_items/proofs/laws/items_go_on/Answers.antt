use Rattle.disk_items.proofs.Going.{goes_on}
use Rattle.disk_items.proofs.laws.items_go_on.Goals as goal

pub returns : goal.returns
returns c = goes_on
