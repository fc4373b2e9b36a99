use Rattle.image_reader.proofs.Answered.{gives}
use Rattle.image_reader.proofs.tree.read_tree.Goals as goal

pub returns-clause-stands : goal.returns-clause-stands
returns-clause-stands c = λ t stands. gives _ _ t c.read_blocks.result c.of.ensures stands c.read_blocks.ensures.right c.read_blocks.ensures.damaged
