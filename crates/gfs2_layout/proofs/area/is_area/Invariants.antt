use Rattle.std.proofs.Common.{length}
use Rattle.gfs2_layout.proofs.Records.{TellsArea}
use Rattle.gfs2_layout.proofs.area.is_area.Given as goal

abbrev pub invariant-loop-rest : goal.invariant-loop-rest
invariant-loop-rest l = TellsArea l.area l.rest

abbrev pub decreases-loop-rest : goal.decreases-loop-rest
decreases-loop-rest l = length l.rest
