use Rattle.drafts.proofs.Fates.{whole_empty, rises_empty}
use Rattle.drafts.proofs.draft.Draft.new.Goals as goal

pub invariant_of-result : goal.invariant_of-result
invariant_of-result g c = (whole_empty _ _ c.new.ensures.empty, rises_empty _ c.new.ensures.empty)
