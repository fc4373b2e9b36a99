use Rattle.std.proofs.Common.{◌≡◌, ◌++◌}
use Rattle.call_locks.specs.Wants.{shared_above}
use Rattle.call_locks.proofs.lists.want_above.Given as goal

abbrev pub invariant-loop-above : goal.invariant-loop-above
invariant-loop-above l = l.wants.items ≡ l.initial.wants.items ++ shared_above l.second l.above
