use Rattle.std.proofs.Common.{ℕ, List, ◌≡◌, ◌*◌, ◌≤◌, min}
use Rattle.gfs2_layout.specs.Groups.{bitmap_of, count_of}
use Rattle.resource_groups.specs.Counting.{states_upto}
use Rattle.resource_groups.specs.Shown.{IsShown, blocks_of, first_place}
use Rattle.resource_groups.proofs.counting.count_free.Given as goal

abbrev pub invariant-loop-part : goal.invariant-loop-part
invariant-loop-part g l = record {
  most : l.free ≤ 16384 * l.part;
  counted : (at : ℕ → List ℕ) → IsShown (g.V.View.seen l.view) l.group at
      → l.free ≡ count_of 0 (states_upto (bitmap_of (blocks_of at l.group)) (min (first_place (g.V.View.seen l.view).size l.part) l.group.count));
}
