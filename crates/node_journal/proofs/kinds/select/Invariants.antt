-- Those so far, and those among the blocks that are left, are those of all.
use Rattle.std.proofs.Common.{◌≡◌, ◌++◌, drop, filter, map}
use Rattle.std.specs.Prelude.{not, if◌then◌else◌}
use Rattle.log_layout.specs.Chunks.{Logged}
use Rattle.journal_scan.specs.Said.{logged}
use Rattle.node_journal.proofs.kinds.select.Given as goal

abbrev pub invariant-loop-written : goal.invariant-loop-written
invariant-loop-written l =
    map (λ r. logged r.now) l.chosen.items ++ filter (λ (e : Logged). if l.plain then e.plain else not e.plain) (map logged (drop l.written-index l.blocks))
    ≡ filter (λ (e : Logged). if l.plain then e.plain else not e.plain) (map logged l.blocks)
