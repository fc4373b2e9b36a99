use Rattle.image_reader.specs.System.{HasNoneNamed}
use Rattle.image_reader.proofs.journals.named.Given as goal

abbrev pub invariant-loop-entry : goal.invariant-loop-entry
invariant-loop-entry l = HasNoneNamed l.found l.entry-index l.parent l.name
