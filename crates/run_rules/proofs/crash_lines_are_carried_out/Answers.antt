use Rattle.std.proofs.Common.{◌≤◌, refl, arith, lit<}
use Rattle.std.specs.Prelude.{IsTrue}
use Rattle.fencing.specs.NodeSets.{has}
use Rattle.run_rules.specs.Laws.{crash_and_list}
use Rattle.run_rules.proofs.Passing.{never_stopped}
use Rattle.run_rules.proofs.crash_lines_are_carried_out.Goals as goal

pub returns : goal.returns
returns c = λ follows.
    let at = follows.placed 0 _ refl tt (0, lit< tt) in
    let named : 1 ≤ crash_and_list.nodes = omega arith in
    let set : IsTrue (has 2 1) = refl in
    never_stopped (follows.place 0) (at.2 1 set named)
