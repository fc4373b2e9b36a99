use Rattle.resource_groups.proofs.Freed.{long_bitmap}
use Rattle.resource_groups.proofs.laws.bitmaps_have_all_states.Goals as goal

pub returns : goal.returns
returns c v g at view has shown = long_bitmap v at g view has shown
