-- With the numbers that are left the block becomes what it is to be.
use Rattle.std.proofs.Common.{◌≡◌, ◌+◌, ◌*◌, drop, map, take}
use Rattle.node_journal.specs.Encoding.{with_numbers}
use Rattle.node_journal.proofs.blocks.put_metadata_head.Given as goal

abbrev pub invariant-loop-i : goal.invariant-loop-i
invariant-loop-i g l =
    with_numbers (72 + 8 * l.i) (map (λ e. e.block) (drop l.i (take l.count (drop l.first (g.E.Entries.logged l.entries))))) l.into
    ≡ with_numbers 72 (map (λ e. e.block) (take l.count (drop l.first (g.E.Entries.logged l.entries)))) l.initial.into
