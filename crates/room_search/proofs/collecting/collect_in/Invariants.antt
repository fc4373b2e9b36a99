use Rattle.std.proofs.Common.{◌≡◌, ℕ, List, take}
use Rattle.resource_groups.specs.Shown.{said}
use Rattle.room_search.specs.Blocks.{free_in_all}
use Rattle.room_search.specs.Searches.{AreShown}
use Rattle.room_search.proofs.collecting.collect_in.Given as goal

abbrev pub invariant-loop-group : goal.invariant-loop-group
invariant-loop-group g l = (at : ℕ → List ℕ) → AreShown (g.V.View.seen l.view) at → l.blocks.items ≡ take l.need (free_in_all (said at) (take l.group-index l.groups))
