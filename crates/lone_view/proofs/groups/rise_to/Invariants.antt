use Rattle.std.proofs.Common.{◌≤◌, ◌↔◌, length}
use Rattle.std.specs.List.{AllByRecursion}
use Rattle.glock_names.specs.Views.{Rise, end_of}
use Rattle.lone_view.proofs.groups.rise_to.Given as goal

abbrev pub invariant-loop-rest : goal.invariant-loop-rest
invariant-loop-rest l = record {
  same : (Rise l.size 0 l.groups × AllByRecursion (λ g. end_of g ≤ l.most) l.groups) ↔ (Rise l.size l.least l.rest × AllByRecursion (λ g. end_of g ≤ l.most) l.rest);
}

abbrev pub decreases-loop-rest : goal.decreases-loop-rest
decreases-loop-rest l = length l.rest
