use Rattle.dlm_master.proofs.SoundLaws.{sound-locks-stay-sound}
use Rattle.dlm_master.proofs.sound_locks_stay_sound.Goals as goal

pub returns : goal.returns
returns c = sound-locks-stay-sound
