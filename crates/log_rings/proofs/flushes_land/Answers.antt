use Rattle.log_rings.proofs.Laws.{flushes_land as proved}
use Rattle.log_rings.proofs.flushes_land.Goals as goal

pub returns : goal.returns
returns c = proved c.what_is_written_is_said.ensures c.own_tail_begins_anew.ensures c.places_say_all.ensures c.live_blocks_fit.ensures
