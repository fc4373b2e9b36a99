use Rattle.dinode_tree.proofs.Sound.{sound_breaks_nothing}
use Rattle.dinode_tree.proofs.laws.sound_inodes_break_nothing.Goals as goal

pub returns : goal.returns
returns c = sound_breaks_nothing
