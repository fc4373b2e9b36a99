use Rattle.log_memory.proofs.LandingAll.{IsLandedUpTo}
use Rattle.log_memory.proofs.landing.land_all.Given as goal

abbrev pub invariant-loop : goal.invariant-loop
invariant-loop l = IsLandedUpTo l.initial.tables l.tables l.first l.counter
