use Rattle.std.proofs.Common.{refl}
use Rattle.image_reader.proofs.Visits.{visit_found}
use Rattle.image_reader.proofs.directory.Visit.of_found.Goals as goal

pub returns-clause-visit : goal.returns-clause-visit
returns-clause-visit c image is = visit_found image c.args.entry.now _ refl refl is
