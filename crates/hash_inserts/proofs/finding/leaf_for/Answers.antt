use Rattle.glock_names.proofs.StepLaws.{needed_at}
use Rattle.hash_inserts.proofs.Seen.{none_needed}
use Rattle.hash_inserts.proofs.finding.leaf_for.Goals as goal

pub returns-in-Ok-NeedBlock : goal.returns-in-Ok-NeedBlock
returns-in-Ok-NeedBlock g c h shown shows sound sees =
    absurd (none_needed _ h _ c.in-Ok-NeedBlock._missing sees (needed_at c.in-Ok-NeedBlock.field-0 c.in-Ok-NeedBlock._missing _ c.in-Ok-NeedBlock.field-0-is (c.in-Ok-NeedBlock.ensures.needed h shows)))
