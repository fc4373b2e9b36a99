use Rattle.call_blocks.proofs.SameSystem.{same_may_change}
use Rattle.call_blocks.proofs.images_with_one_system_may_change_alike.Goals as goal

pub returns : goal.returns
returns c = same_may_change
