use Rattle.std.proofs.Common.{ℕ, ◌+◌, ◌-◌, ◌<◌, ◌≤◌, max}
use Rattle.gfs2_layout.specs.Holding.{Holding}
use Rattle.dinode_tree.specs.Shown.{IsShown}
use Rattle.growth_laws.specs.Files.{IsFile}
use Rattle.file_cuts.specs.Progress.{IsSeenOver}
use Rattle.file_cuts.proofs.looking.look_past.Given as goal

abbrev pub invariant-loop-index : goal.invariant-loop-index
invariant-loop-index g l = record {
  least : l.end ≤ l.index;
  seen : (h : Holding) (i : ℕ) → IsFile h → IsShown (g.V.View.seen l.view) l.inode h → l.end ≤ i → i < l.index → IsSeenOver (g.V.View.seen l.view) h i;
}

abbrev pub decreases-loop-index : goal.decreases-loop-index
decreases-loop-index g l = max l.count (l.end + 1) - l.index
