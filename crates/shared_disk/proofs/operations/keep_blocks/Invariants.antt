use Rattle.std.proofs.Common.{◌≡◌, ◌+◌, ◌++◌, map, take}
use Rattle.shared_disk.specs.Flights.{flights_in, AreSized}
use Rattle.shared_disk.specs.Blocks.{block_in}
use Rattle.shared_disk.specs.Operations.{now_at}
use Rattle.shared_disk.proofs.operations.keep_blocks.Given as goal

abbrev pub invariant-loop-place : goal.invariant-loop-place
invariant-loop-place l = record {
  place : l.at ≡ l.used + l.place-index;
  flights : flights_in (take l.at l.kept) ≡ flights_in (take l.used l.initial.kept) ++ map (now_at (block_in l.size l.row)) (take l.place-index l.places);
  sizes : AreSized l.size l.kept;
}
