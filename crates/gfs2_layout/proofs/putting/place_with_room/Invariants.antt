use Rattle.std.proofs.Common.{length}
use Rattle.gfs2_layout.proofs.Places.{IsPlace}
use Rattle.gfs2_layout.proofs.putting.place_with_room.Given as goal

abbrev pub invariant-loop-rest : goal.invariant-loop-rest
invariant-loop-rest l = IsPlace l.needed l.area l.at l.rest

abbrev pub decreases-loop-rest : goal.decreases-loop-rest
decreases-loop-rest l = length l.rest
