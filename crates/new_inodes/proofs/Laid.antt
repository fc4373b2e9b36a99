-- The bytes of a directory's block that was touched, and then written over once more.
use Rattle.std.proofs.Common.{◌≡◌, ℕ, ◌≤◌, List, length, Some, arith}
use Rattle.gfs2_layout.specs.Holding.{Holding, bytes_at}
use Rattle.gfs2_layout.specs.Inode.{dinode_in}
use Rattle.gfs2_layout.specs.Structures.{dinode_length}
use Rattle.glock_names.specs.Views.{IsView, Seen}
use Rattle.dinode_tree.proofs.Pads.{keeps_on, put_keeps}
use Rattle.dinode_tree.proofs.Sound.{size_large}
use Rattle.linear_dirs.specs.Exchanges.{IsLaidOver}
use Rattle.linear_dirs.specs.Shown.{holding_over}
use Rattle.new_inodes.specs.Touched.{IsTouched, with_times}

-- a block of a view has room for a dinode
pub block_large : (v : Seen) → IsView v → (b : ℕ) (bytes : List ℕ) → v.block_at b ≡ Some bytes → dinode_length ≤ length bytes
block_large v is b bytes there = omega (arith, size_large v.size is.block_size, is.whole b bytes there)

-- what keeps the pads of the touched block keeps those of before
pub laid_touched : (w : Seen) (h : Holding) (time : ℕ) (new : List ℕ) → IsTouched h (holding_over w h) time → dinode_length ≤ length (bytes_at h h.own)
    → IsLaidOver (bytes_at (holding_over w h) h.own) new → IsLaidOver (bytes_at h h.own) new
unfolding dinode_in
laid_touched w h time new touched large laid = record {
  pads = keeps_on (bytes_at h h.own) (bytes_at (holding_over w h) h.own) new large
      (put_keeps (with_times (dinode_in h) time) (bytes_at h h.own) (bytes_at (holding_over w h) h.own) touched.written touched.dinode touched.behind) laid.pads;
  filled = laid.filled;
}
