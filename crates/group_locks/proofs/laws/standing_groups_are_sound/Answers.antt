use Rattle.group_locks.proofs.Locks.{groups_break_nothing}
use Rattle.group_locks.proofs.laws.standing_groups_are_sound.Goals as goal

pub returns : goal.returns
returns c = groups_break_nothing
