use Rattle.image_machine.proofs.Answering.{missing_is_needed}
use Rattle.image_machine.proofs.missing_blocks_are_needed.Goals as goal

pub returns : goal.returns
returns c = missing_is_needed
