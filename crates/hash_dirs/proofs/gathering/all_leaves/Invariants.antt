use Rattle.std.specs.Prelude.{ℕ, Contains}
use Rattle.gfs2_layout.specs.Holding.{Holding}
use Rattle.growth_drafts.specs.Taken.{IsDistinct}
use Rattle.hash_dirs.specs.Leaves.{AreLeavesBefore, IsRead}
use Rattle.hash_dirs.specs.Shown.{IsShown}
use Rattle.hash_dirs.proofs.gathering.all_leaves.Given as goal

abbrev pub invariant-loop-index : goal.invariant-loop-index
invariant-loop-index g l = record {
  listed : (h : Holding) → IsShown (g.V.View.seen l.view) l.dir h → g.T.PointerTable.shows l.table (g.V.View.seen l.view) h → AreLeavesBefore h l.index l.leaves.items;
  once : IsDistinct l.leaves.items;
  read : (x : ℕ) → Contains l.leaves.items x → IsRead (g.V.View.seen l.view) x;
}
