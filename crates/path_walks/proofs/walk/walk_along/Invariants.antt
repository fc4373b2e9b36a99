use Rattle.std.proofs.Common.{◌≡◌, ◌+◌}
use Rattle.path_walks.proofs.Walking.{IsAfter}
use Rattle.path_walks.proofs.walk.walk_along.Given as goal

abbrev pub invariant-loop-name : goal.invariant-loop-name
invariant-loop-name g l = record {
  depth : l.depth ≡ l.name-index + 1;
  after : IsAfter (g.V.View.seen l.view) l.names l.wants l.name-index l.place;
}
