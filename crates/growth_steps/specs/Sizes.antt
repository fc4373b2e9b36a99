-- What lets a file in blocks have another size.
use Rattle.std.specs.Prelude.{ℕ, suc, ◌≡◌, ◌≢◌, ◌*◌, ◌<◌, ◌≤◌, Some}
use Rattle.gfs2_layout.specs.Holding.{Pointed, Holding, part_at}
use Rattle.gfs2_layout.specs.Inode.{dinode_in, height_in, fan, span, unit, pieces}
use Rattle.gfs2_layout.specs.Structures.{dinode_length}
use Rattle.growth_laws.specs.Steps.{IsClearFrom}

-- Its height reaches the size; no block stands past it; and where it is more than before, the file is clear from the old end on.
pub record CanHaveSize (h : Holding) (size : ℕ) : Type 0 where
  pub in_blocks : height_in h ≢ 0
  pub reached : (level : ℕ) → height_in h ≡ suc level → pieces size (unit h) ≤ fan h.size dinode_length * span h.size level
  pub no_block : (b from k level first : ℕ) → part_at h b ≡ Some (Pointed from k level first) → first < pieces size (unit h)
  pub clear : (dinode_in h).size < size → IsClearFrom h (dinode_in h).size
