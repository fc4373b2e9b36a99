use Rattle.std.proofs.Common.{subst}
use Rattle.image_mount.specs.Searching.{StopsRightly}
use Rattle.image_mount.proofs.Marks.{searched_on}
use Rattle.image_mount.proofs.fetching.go_on.Goals as goal

pub returns-in-Reads-clause-searched : goal.returns-in-Reads-clause-searched
returns-in-Reads-clause-searched g c = searched_on _ _ _ _ _ _ c.in-Reads.is c.fetch.ensures.searched

pub returns-in-Reads-clause-refused : goal.returns-in-Reads-clause-refused
returns-in-Reads-clause-refused g c done d n im shows stops known = c.fetch.ensures.refused done d n im shows (subst (StopsRightly im) c.in-Reads.is stops) known
