use Rattle.std.proofs.Common.{◌≡◌, ◌≤◌, ◌-◌, ◌/◌, length}
use Rattle.gfs2_layout.specs.Holding.{Holding}
use Rattle.gfs2_layout.specs.Inode.{unit}
use Rattle.dinode_tree.specs.Shown.{IsShown}
use Rattle.dinode_tree.specs.Reading.{AreHeaded, AreWholeBefore}
use Rattle.dinode_tree.specs.Walking.{laid_range, ArePieces}
use Rattle.dinode_tree.proofs.content.blocks_range.Given as goal

abbrev pub invariant-loop-next : goal.invariant-loop-next
invariant-loop-next g l = record {
  least : l.at ≤ l.next;
  most : l.next ≤ l.end;
  count : length l.bytes.items ≡ l.next - l.at;
  read : (h : Holding) → IsShown (g.V.View.seen l.view) l.inode.block h → AreWholeBefore h l.at → l.bytes.items ≡ laid_range h l.at l.next;
  headed : (h : Holding) → IsShown (g.V.View.seen l.view) l.inode.block h → AreHeaded h l.at l.next;
  pieces : (h : Holding) → IsShown (g.V.View.seen l.view) l.inode.block h → AreWholeBefore h l.at → ArePieces h (l.next / unit h);
}

abbrev pub decreases-loop-next : goal.decreases-loop-next
decreases-loop-next g l = l.end - l.next
