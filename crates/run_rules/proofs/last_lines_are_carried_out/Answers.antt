use Rattle.std.proofs.Common.{◌≤◌, refl, arith}
use Rattle.std.specs.Prelude.{IsTrue}
use Rattle.fencing.specs.NodeSets.{has}
use Rattle.run_rules.specs.Laws.{list_and_crash}
use Rattle.run_rules.proofs.Passing.{never_stopped}
use Rattle.run_rules.proofs.last_lines_are_carried_out.Goals as goal

pub returns : goal.returns
returns c = λ all.
    let at = all.placed 1 _ refl tt in
    let named : 1 ≤ list_and_crash.nodes = omega arith in
    let set : IsTrue (has 2 1) = refl in
    never_stopped (all.place 1) (at.2 1 set named)
