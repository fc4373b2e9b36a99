-- With the numbers that are left the block becomes what it is to be.
use Rattle.std.proofs.Common.{◌≡◌, ◌+◌, ◌*◌, drop}
use Rattle.node_journal.specs.Encoding.{with_numbers}
use Rattle.node_journal.proofs.numbers.put_numbers.Given as goal

abbrev pub invariant-loop-i : goal.invariant-loop-i
invariant-loop-i l = with_numbers (l.at + 8 * l.i) (drop l.i l.numbers) l.block ≡ with_numbers l.at l.numbers l.initial.block
