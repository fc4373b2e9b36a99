use Rattle.peer_replay.proofs.Entries.{IsLeft}
use Rattle.peer_replay.proofs.homes.put_live.Given as goal

abbrev pub invariant-loop-written : goal.invariant-loop-written
invariant-loop-written l = IsLeft l.revokes l.sequence l.initial.home l.home l.fn.blocks.items l.left.items

abbrev pub decreases-loop-written : goal.decreases-loop-written
decreases-loop-written l = l.left.len
