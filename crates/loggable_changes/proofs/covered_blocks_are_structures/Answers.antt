use Rattle.loggable_changes.proofs.Structures.{covered_blocks_are_structures}
use Rattle.loggable_changes.proofs.covered_blocks_are_structures.Goals as goal

pub returns : goal.returns
returns c = covered_blocks_are_structures
