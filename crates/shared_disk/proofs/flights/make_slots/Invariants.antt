use Rattle.std.proofs.Common.{◌≡◌, length}
use Rattle.shared_disk.specs.Flights.{AreSized}
use Rattle.shared_disk.proofs.flights.make_slots.Given as goal

abbrev pub invariant-loop : goal.invariant-loop
invariant-loop l = record {
  count : length l.slots.items ≡ l.counter;
  sizes : AreSized l.size l.slots.items;
}
