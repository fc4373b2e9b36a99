use Rattle.std.proofs.Common.{◌≡◌}
use Rattle.log_memory.proofs.Resting.{IsRestedUpTo, with_live}
use Rattle.log_memory.proofs.landing.rest_all.Given as goal

abbrev pub invariant-loop-place : goal.invariant-loop-place
invariant-loop-place l = record {
  same : l.tables ≡ with_live l.initial.tables l.tables.live;
  rested : IsRestedUpTo l.initial.tables.live l.tables.live l.revoked.at l.place;
}
