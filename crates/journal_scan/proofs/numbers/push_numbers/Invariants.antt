use Rattle.std.proofs.Common.{◌≡◌, ◌++◌}
use Rattle.log_layout.specs.Chunks.{numbers_at}
use Rattle.journal_scan.proofs.numbers.push_numbers.Given as goal

abbrev pub invariant-loop-i : goal.invariant-loop-i
invariant-loop-i l = l.into.items ≡ l.initial.into.items ++ numbers_at l.at 8 l.i l.block
