use Rattle.image_journals.specs.Adding.{AreAdded}
use Rattle.image_journals.proofs.SystemBlocks.{IsPointedFirst}
use Rattle.image_journals.proofs.system.add_below.Given as goal

abbrev pub invariant-loop-pointed : goal.invariant-loop-pointed
invariant-loop-pointed l = AreAdded l.fn.found.items l.found.items (IsPointedFirst l.pointed-items l.pointed-index)
