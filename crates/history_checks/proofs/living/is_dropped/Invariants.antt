-- Whether one of those that are left does is whether one does.
use Rattle.std.proofs.Common.{◌≡◌, drop}
use Rattle.cluster_history.specs.History.{any_drops}
use Rattle.history_checks.proofs.living.is_dropped.Given as goal

abbrev pub invariant-loop-item : goal.invariant-loop-item
invariant-loop-item l = any_drops l.node l.number (drop l.item-index l.later) ≡ any_drops l.node l.number l.later
