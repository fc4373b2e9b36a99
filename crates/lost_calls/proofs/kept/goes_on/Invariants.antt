use Rattle.std.proofs.Common.{◌≡◌, drop}
use Rattle.file_tree.specs.Names.{leads_to}
use Rattle.lost_calls.proofs.kept.goes_on.Given as goal

abbrev pub invariant-loop-depth : goal.invariant-loop-depth
invariant-loop-depth l = leads_to l.first l.second ≡ leads_to (drop l.depth l.first) (drop l.depth l.second)
