use Rattle.std.proofs.Common.{◌≡◌, ◌/◌, ℕ, length}
use Rattle.shared_disk.specs.Disk.{written, AreFlights}
use Rattle.shared_disk.specs.Places.{flights_at, AreThere}
use Rattle.shared_disk.specs.Outcomes.{became, AreOfSize}
use Rattle.shared_disk.specs.Blocks.{block_in}
use Rattle.shared_disk.proofs.outcomes.settle_blocks.Given as goal

abbrev pub invariant-loop-rest : goal.invariant-loop-rest
invariant-loop-rest l = record {
  flights : AreFlights (length l.row / l.size) l.size (flights_at l.size l.bytes l.rest);
  outcomes : AreOfSize l.size l.left;
  there : AreThere l.size l.bytes l.rest;
  same_end : (k : ℕ) → written (block_in l.size l.row) (became l.order l.left (block_in l.size l.row) (flights_at l.size l.bytes l.rest)) k ≡ written (block_in l.size l.initial.row) (became l.order l.outcomes (block_in l.size l.initial.row) (flights_at l.size l.bytes l.places)) k;
}

abbrev pub decreases-loop-rest : goal.decreases-loop-rest
decreases-loop-rest l = length l.rest
