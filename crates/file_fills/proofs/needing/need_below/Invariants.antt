use Rattle.std.proofs.Common.{◌≡◌, ◌+◌, ◌*◌, ◌≤◌}
use Rattle.gfs2_layout.specs.Holding.{Holding}
use Rattle.dinode_tree.specs.Shown.{IsShown}
use Rattle.growth_laws.specs.Files.{IsFile}
use Rattle.growth_laws.specs.Need.{needed_below}
use Rattle.file_fills.specs.Counting.{IsWriteTo}
use Rattle.file_fills.proofs.needing.need_below.Given as goal

abbrev pub invariant-loop-level : goal.invariant-loop-level
invariant-loop-level g l = record {
  few : l.need ≤ l.level * (l.write.end + 1);
  found : (h : Holding) → IsFile h → IsShown (g.V.View.seen l.view) l.write.inode h → IsWriteTo h l.write → l.need ≡ needed_below h l.write.at l.write.end l.level;
}
