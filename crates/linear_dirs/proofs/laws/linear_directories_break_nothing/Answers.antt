use Rattle.linear_dirs.proofs.Unbroken.{unbroken}
use Rattle.linear_dirs.proofs.laws.linear_directories_break_nothing.Goals as goal

pub returns : goal.returns
returns c h rule b sound directory linear names entries links = unbroken h (λ r x. c.sound_inodes_break_nothing.ensures h r x sound) sound directory linear names entries links rule b
