use Rattle.std.proofs.Common.{◌-◌, ◌≤◌}
use Rattle.gfs2_layout.specs.Holding.{Holding}
use Rattle.hash_dirs.specs.Shown.{IsShown, IsSound}
use Rattle.hash_dirs.specs.Walking.{IsListed}
use Rattle.hash_dirs.proofs.listing.names.Given as goal

abbrev pub invariant-loop-index : goal.invariant-loop-index
invariant-loop-index g l = record {
  within : l.index ≤ l.count;
  listed : (h : Holding) → IsShown (g.V.View.seen l.view) l.dir h → g.T.PointerTable.shows l.table (g.V.View.seen l.view) h → IsSound h → IsListed h l.names.items l.index;
}

abbrev pub decreases-loop-index : goal.decreases-loop-index
decreases-loop-index g l = l.count - l.index
