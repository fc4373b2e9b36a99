use Rattle.image_changes.proofs.Touching.{locks_are_touched}
use Rattle.image_changes.proofs.does.answers_touch_their_locks.Goals as goal

pub returns : goal.returns
returns c = locks_are_touched
