use Rattle.std.proofs.Common.{◌≡◌, ℕ, List, ◌≤◌, ◌*◌, length, map, take}
use Rattle.resource_groups.specs.Shown.{said}
use Rattle.path_walks.specs.Holds.{AreHeld, hold_of_group}
use Rattle.room_search.specs.Blocks.{free_in_all}
use Rattle.room_search.specs.Searches.{AreShown}
use Rattle.room_search.proofs.counting.count_in.Given as goal

abbrev pub invariant-loop-group : goal.invariant-loop-group
invariant-loop-group g l = record {
  most : l.count ≤ 4294967295 * l.group-index;
  held : (at : ℕ → List ℕ) → AreShown (g.V.View.seen l.view) at → AreHeld (g.V.View.seen l.view) (map hold_of_group (take l.group-index l.groups));
  free : (at : ℕ → List ℕ) → AreShown (g.V.View.seen l.view) at → l.count ≡ length (free_in_all (said at) (take l.group-index l.groups));
}
