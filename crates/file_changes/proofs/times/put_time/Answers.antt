use Rattle.std.proofs.Common.{subst}
use Rattle.glock_names.specs.Steps.{TellsOf}
use Rattle.dinode_tree.specs.Broken.{IsBroken}
use Rattle.dinode_tree.proofs.Sound.{sound_breaks_nothing}
use Rattle.file_changes.proofs.times.put_time.Goals as goal

pub returns-in-Err-Damaged-clause-sound : goal.returns-in-Err-Damaged-clause-sound
returns-in-Err-Damaged-clause-sound g c h shown sound =
    absurd (sound_breaks_nothing h _ _ sound (subst (TellsOf (IsBroken h)) c.in-Err-Damaged.field-0-is (c.in-Err-Damaged.ensures.damaged h shown)))
