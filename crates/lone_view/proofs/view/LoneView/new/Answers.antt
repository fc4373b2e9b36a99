use Rattle.lone_view.proofs.Kept.{empty_view, rises_empty}
use Rattle.lone_view.proofs.view.LoneView.new.Goals as goal

pub invariant_of-result : goal.invariant_of-result
invariant_of-result c = (empty_view _ _ _ _ c.new.ensures.empty c.requires.size c.requires.groups, rises_empty _ c.new.ensures.empty)
