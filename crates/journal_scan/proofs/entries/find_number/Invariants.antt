use Rattle.std.proofs.Common.{◌≡◌, ◌+◌, ◌-◌, ◌<◌}
use Rattle.log_layout.specs.Journal.{blocks_from}
use Rattle.journal_scan.specs.Images.{ring_of}
use Rattle.journal_scan.specs.Numbers.{last_number, number_from}
use Rattle.journal_scan.proofs.entries.find_number.Given as goal

abbrev pub invariant-loop-taken : goal.invariant-loop-taken
invariant-loop-taken l = record {
  inside : l.place < l.j.length;
  same : last_number l.j.block_size l.number l.search.passed l.search.found (blocks_from (ring_of l.j) l.place ((l.count + 1) - l.taken)) ≡ number_from (ring_of l.j) l.head l.number;
}
