-- Each shorter front is answered so.
use Rattle.std.proofs.Common.{ℕ, ◌<◌, take}
use Rattle.cluster_history.specs.History.{AllAnswer, alive}
use Rattle.history_checks.proofs.checking.is_legal.Given as goal

abbrev pub invariant-loop-n : goal.invariant-loop-n
invariant-loop-n l = (m : ℕ) → m < l.n → AllAnswer (alive (take m l.items)) l.start
