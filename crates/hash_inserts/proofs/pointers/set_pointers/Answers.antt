use Rattle.std.proofs.Common.{subst}
use Rattle.glock_names.specs.Steps.{TellsOf}
use Rattle.glock_names.proofs.StepLaws.{needed_at}
use Rattle.table_changes.specs.Pointers.{IsTableBroken}
use Rattle.hash_inserts.proofs.Seen.{none_broken, none_needed}
use Rattle.hash_inserts.proofs.pointers.set_pointers.Goals as goal

pub returns-in-Ok-NeedBlock-clause-set : goal.returns-in-Ok-NeedBlock-clause-set
returns-in-Ok-NeedBlock-clause-set g c h shows sound hashed sees =
    absurd (none_needed _ h _ c.in-Ok-NeedBlock._missing sees (needed_at c.in-Ok-NeedBlock.field-0 c.in-Ok-NeedBlock._missing _ c.in-Ok-NeedBlock.field-0-is (c.in-Ok-NeedBlock.ensures.needed h shows)))

pub returns-in-Err-Damaged-clause-set : goal.returns-in-Err-Damaged-clause-set
returns-in-Err-Damaged-clause-set g c h shows sound hashed sees =
    absurd (none_broken c.sound_inodes_break_nothing.ensures h _ _ sound hashed (subst (TellsOf (IsTableBroken h)) c.in-Err-Damaged.field-0-is (c.in-Err-Damaged.ensures.damaged h shows)))
