use Rattle.std.proofs.Common.{length}
use Rattle.peer_replay.proofs.Entries.{IsPart}
use Rattle.peer_replay.proofs.homes.into_blocks.Given as goal

abbrev pub invariant-loop-written : goal.invariant-loop-written
invariant-loop-written l = IsPart l.fn.home.entries l.left.entries l.blocks.items

abbrev pub decreases-loop-written : goal.decreases-loop-written
decreases-loop-written l = length l.left.entries
