use Rattle.dinode_tree.proofs.Sound.{all_is_shown}
use Rattle.dinode_tree.proofs.laws.all_blocks_are_shown.Goals as goal

pub returns : goal.returns
returns c = all_is_shown
