use Rattle.damage_laws.proofs.AllNeeded.{needs_tell}
use Rattle.damage_laws.proofs.telling.needs_out_of_the_device_tell_broken_blocks.Goals as goal

pub returns : goal.returns
returns c = needs_tell
