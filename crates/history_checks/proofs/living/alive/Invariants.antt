-- What was found, and what is alive of the rest, is what is alive of the whole.
use Rattle.std.proofs.Common.{◌≡◌, ◌++◌, drop}
use Rattle.cluster_history.specs.Losses.{living}
use Rattle.history_checks.proofs.living.alive.Given as goal

abbrev pub invariant-loop-i : goal.invariant-loop-i
invariant-loop-i l = l.calls.items ++ living (drop l.i l.items) ≡ living l.items
