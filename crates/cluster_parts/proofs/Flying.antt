-- Who has what in flight.
use Rattle.cluster_laws.specs.Files.{Files}
use Rattle.cluster_parts.specs.Parts.{WritersHold}

pub writers_hold : (F : Files) → WritersHold F
writers_hold F c t = record { homes = t.alone; headers = t.writers; one_head = t.headers; fenced = λ i f. (t.settled i f).1 }
