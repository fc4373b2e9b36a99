use Rattle.log_rings.proofs.Laws.{rings_are_readable as proved}
use Rattle.log_rings.proofs.rings_of_logs_are_readable.Goals as goal

pub returns : goal.returns
returns c = proved
