use Rattle.image_reader.specs.System.{HasNoDirectoryNamed}
use Rattle.image_reader.proofs.journals.named_directory.Given as goal

abbrev pub invariant-loop-entry : goal.invariant-loop-entry
invariant-loop-entry l = HasNoDirectoryNamed l.found l.entry-index l.parent l.name
