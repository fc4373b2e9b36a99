use Rattle.std.proofs.Common.{take}
use Rattle.node_journal.proofs.Arounds.{IsCounted}
use Rattle.node_journal.proofs.sizes.content_count.Given as goal

abbrev pub invariant-loop-written : goal.invariant-loop-written
invariant-loop-written l = IsCounted (take l.written-index l.blocks) l.count
