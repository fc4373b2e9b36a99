use Rattle.std.proofs.Common.{◌-◌, ℕ, List, ◌+◌, ◌<◌}
use Rattle.resource_groups.specs.Finding.{NoneIsFree}
use Rattle.resource_groups.specs.Shown.{IsShown, HasBitsIn}
use Rattle.resource_groups.proofs.finding.find_free.Given as goal

abbrev pub invariant-loop-place : goal.invariant-loop-place
invariant-loop-place g l = record {
  stands : HasBitsIn (g.V.View.seen l.view).size l.place l.part;
  -- the place stands above `after`, and no free block before it does
  none : (at : ℕ → List ℕ) → IsShown (g.V.View.seen l.view) l.group at → NoneIsFree at l.group l.after (l.group.first + l.place);
  above : l.place < l.group.count → l.after < l.group.first + l.place;
}

abbrev pub decreases-loop-place : goal.decreases-loop-place
decreases-loop-place g l = l.group.count - l.place
