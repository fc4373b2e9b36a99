use Rattle.dinode_tree.proofs.Sound.{sound_is_whole}
use Rattle.dinode_tree.proofs.laws.sound_inodes_are_whole.Goals as goal

pub returns : goal.returns
returns c = sound_is_whole
