-- Those that are left answer on the tree as it is now exactly where all do from the start.
use Rattle.std.proofs.Common.{◌↔◌}
use Rattle.cluster_history.specs.History.{AllAnswer}
use Rattle.cluster_history.specs.Losses.{replied}
use Rattle.history_checks.proofs.Fronts.{AllFrom}
use Rattle.history_checks.proofs.checking.all_answer.Given as goal

abbrev pub invariant-loop-item : goal.invariant-loop-item
invariant-loop-item l = AllAnswer (replied l.calls) l.start ↔ AllFrom l.calls l.item-index l.tree
