use Rattle.std.proofs.Common.{◌≤◌}
use Rattle.gfs2_layout.specs.Holding.{Holding}
use Rattle.dinode_tree.specs.Shown.{IsShown}
use Rattle.dinode_tree.specs.Walking.{IsLink}
use Rattle.dinode_tree.proofs.links.find.Given as goal

abbrev pub invariant-loop-link : goal.invariant-loop-link
invariant-loop-link g l = record {
  least : l.link.way.left ≤ l.link.way.index;
  step : (h : Holding) → IsShown (g.V.View.seen l.view) l.inode.block h → IsLink h l.index l.link;
}

abbrev pub decreases-loop-link : goal.decreases-loop-link
decreases-loop-link g l = l.link.way.level
