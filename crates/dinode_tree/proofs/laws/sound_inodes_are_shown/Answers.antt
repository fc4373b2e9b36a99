use Rattle.dinode_tree.proofs.Sound.{sound_is_shown}
use Rattle.dinode_tree.proofs.laws.sound_inodes_are_shown.Goals as goal

pub returns : goal.returns
returns c = sound_is_shown
