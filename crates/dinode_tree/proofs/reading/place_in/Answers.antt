use Rattle.dinode_tree.proofs.Stepping.{needed_at}
use Rattle.dinode_tree.proofs.reading.place_in.Goals as goal

pub returns-in-NeedBlock-clause-needed : goal.returns-in-NeedBlock-clause-needed
returns-in-NeedBlock-clause-needed g c h shown = needed_at c.in_ok-link.field-0 c.in-NeedBlock.missing _ c.in-NeedBlock.is (c.in_ok-link.ensures.needed h shown)
