-- With the numbers and escapes that are left the block becomes what it is to be.
use Rattle.std.proofs.Common.{◌≡◌, ◌+◌, ◌*◌, drop, take}
use Rattle.node_journal.specs.Encoding.{content_numbers, with_numbers}
use Rattle.node_journal.proofs.blocks.put_content_head.Given as goal

abbrev pub invariant-loop-i : goal.invariant-loop-i
invariant-loop-i g l =
    with_numbers (72 + 16 * l.i) (content_numbers (drop l.i (take l.count (drop l.first (g.E.Entries.logged l.entries))))) l.into
    ≡ with_numbers 72 (content_numbers (take l.count (drop l.first (g.E.Entries.logged l.entries)))) l.initial.into
