use Rattle.image_reader.proofs.NamesApart.{AreNames}
use Rattle.image_reader.proofs.visiting.check_names.Given as goal

abbrev pub invariant-loop-place : goal.invariant-loop-place
invariant-loop-place l = AreNames l.first l.place l.found l.names
