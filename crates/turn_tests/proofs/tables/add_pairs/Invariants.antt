use Rattle.std.proofs.Common.{◌≡◌, []}
use Rattle.turn_tests.proofs.tables.add_pairs.Given as goal

abbrev pub invariant-loop : goal.invariant-loop
invariant-loop g l = (l.seat.table ≡ l.initial.seat.table) × (l.seat.share ≡ l.initial.seat.share) × (l.seat.turns ≡ [])
