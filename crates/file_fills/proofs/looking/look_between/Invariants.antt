use Rattle.std.proofs.Common.{ℕ, ◌<◌, ◌≤◌}
use Rattle.gfs2_layout.specs.Holding.{Holding}
use Rattle.dinode_tree.specs.Shown.{IsShown}
use Rattle.growth_laws.specs.Files.{IsFile}
use Rattle.file_fills.specs.Filling.{IsSeenWay}
use Rattle.file_fills.proofs.looking.look_between.Given as goal

abbrev pub invariant-loop-index : goal.invariant-loop-index
invariant-loop-index g l = (h : Holding) (i : ℕ) → IsFile h → IsShown (g.V.View.seen l.view) l.inode h → l.first ≤ i → i < l.index → IsSeenWay (g.V.View.seen l.view) h i
