use Rattle.directories.proofs.Sound.{says_sound}
use Rattle.directories.proofs.laws.directories_say_their_records.Goals as goal

pub returns : goal.returns
returns c h name found sound says = says_sound h name found sound says
