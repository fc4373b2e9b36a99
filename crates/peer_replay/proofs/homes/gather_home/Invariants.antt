use Rattle.peer_replay.proofs.Entries.{IsOver}
use Rattle.peer_replay.proofs.homes.gather_home.Given as goal

abbrev pub invariant-loop-t : goal.invariant-loop-t
invariant-loop-t l = IsOver l.fn.transactions.items l.home l.left.items

abbrev pub decreases-loop-t : goal.decreases-loop-t
decreases-loop-t l = l.left.len
