use Rattle.dinode_tree.proofs.Sound.{some_is_shown}
use Rattle.dinode_tree.proofs.laws.every_view_shows_an_inode.Goals as goal

pub returns : goal.returns
returns c = some_is_shown
