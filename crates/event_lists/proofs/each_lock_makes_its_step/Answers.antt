use Rattle.event_lists.proofs.Calling.{locks_make}
use Rattle.event_lists.proofs.each_lock_makes_its_step.Goals as goal

pub returns : goal.returns
returns g c = locks_make _
