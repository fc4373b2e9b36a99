use Rattle.image_reader.proofs.Baring.{AreBareTo}
use Rattle.image_reader.proofs.assembly.bare_trees.Given as goal

abbrev pub invariant-loop-entry : goal.invariant-loop-entry
invariant-loop-entry l = AreBareTo l.top l.found l.entry-index l.trees.items
