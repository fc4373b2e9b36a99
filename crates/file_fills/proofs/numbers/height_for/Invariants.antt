use Rattle.std.proofs.Common.{◌≡◌, ◌-◌, ◌≤◌}
use Rattle.growth_laws.specs.Need.{raised_to}
use Rattle.file_fills.proofs.numbers.height_for.Given as goal

abbrev pub invariant-loop-high : goal.invariant-loop-high
invariant-loop-high l = record {
  least : l.height ≤ l.high;
  most : l.height ≤ 10 → l.high ≤ 10;
  same : raised_to l.size l.height l.bytes (10 - l.height) ≡ raised_to l.size l.high l.bytes (10 - l.high);
}

abbrev pub decreases-loop-high : goal.decreases-loop-high
decreases-loop-high l = 10 - l.high
