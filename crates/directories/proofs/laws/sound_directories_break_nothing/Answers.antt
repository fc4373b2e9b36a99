use Rattle.directories.proofs.Sound.{unbroken}
use Rattle.directories.proofs.laws.sound_directories_break_nothing.Goals as goal

pub returns : goal.returns
returns c v h rule b sound is inside below down entries links broken = unbroken v h sound is inside below down entries links rule b broken
