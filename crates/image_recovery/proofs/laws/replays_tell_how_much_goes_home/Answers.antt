use Rattle.image_recovery.proofs.Counting.{put_live, replays_tell}
use Rattle.image_recovery.proofs.laws.replays_tell_how_much_goes_home.Goals as goal

pub returns-clause-live : goal.returns-clause-live
returns-clause-live c = put_live

pub returns-clause-told : goal.returns-clause-told
returns-clause-told c = replays_tell
