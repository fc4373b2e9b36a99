use Rattle.log_rings.proofs.Laws.{clean_rings_begin as proved}
use Rattle.log_rings.proofs.clean_rings_begin.Goals as goal

pub returns : goal.returns
returns c = proved
