use Rattle.std.proofs.Common.{◌<◌, ◌≤◌}
use Rattle.std.specs.Prelude.{Contains}
use Rattle.gfs2_layout.specs.Holding.{Holding}
use Rattle.dinode_tree.specs.Below.{HasRows}
use Rattle.dinode_tree.specs.Shown.{IsShown}
use Rattle.dinode_tree.specs.declared.ways.Link.{Link}
use Rattle.dinode_tree.proofs.Rows.{AreSeen}
use Rattle.dinode_tree.proofs.below.below_in.Given as goal

abbrev pub invariant-loop-level : goal.invariant-loop-level
invariant-loop-level g l = record {
  low : l.level < l.inode.dinode.height;
  above : (x : Link) → Contains l.below.row.items x → 1 ≤ x.way.level;
  seen : AreSeen (g.V.View.seen l.view) l.below.found.items;
  rows : (h : Holding) → IsShown (g.V.View.seen l.view) l.inode.block h → HasRows h l.level l.below;
}

abbrev pub decreases-loop-level : goal.decreases-loop-level
decreases-loop-level g l = l.level
