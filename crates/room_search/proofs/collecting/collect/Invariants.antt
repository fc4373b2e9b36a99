use Rattle.std.proofs.Common.{◌≡◌, ℕ, List, ◌-◌, length, take}
use Rattle.resource_groups.specs.Shown.{IsShown, said}
use Rattle.room_search.specs.Blocks.{free_in}
use Rattle.room_search.proofs.Collected.{IsCollected}
use Rattle.room_search.proofs.collecting.collect.Given as goal

abbrev pub invariant-loop-need : goal.invariant-loop-need
invariant-loop-need g l = (at : ℕ → List ℕ) (before : List ℕ) → IsShown (g.V.View.seen l.view) l.group at → l.fn.blocks.items ≡ take l.need before → IsCollected l.need before (free_in (said at) l.group) l.blocks.items l.after

abbrev pub decreases-loop-need : goal.decreases-loop-need
decreases-loop-need g l = l.need - length l.blocks.items
