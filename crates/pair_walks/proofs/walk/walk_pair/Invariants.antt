use Rattle.std.proofs.Common.{◌≡◌, ◌+◌}
use Rattle.pair_walks.specs.Ways.{AreUnderway, left_on}
use Rattle.pair_walks.proofs.walk.walk_pair.Given as goal

abbrev pub invariant-loop-end : goal.invariant-loop-end
invariant-loop-end g l = record {
  underway : AreUnderway (g.V.View.seen l.view) l.one l.two;
  first : l.one.names.now ≡ l.first;
  second : l.two.names.now ≡ l.second;
  first_wants : l.one.wants.now ≡ l.first_wants;
  second_wants : l.two.wants.now ≡ l.second_wants;
}

abbrev pub decreases-loop-end : goal.decreases-loop-end
decreases-loop-end g l = left_on l.one + left_on l.two
