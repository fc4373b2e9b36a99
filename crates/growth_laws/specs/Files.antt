-- A regular file: the rules of its blocks, and which block stands where in its tree.
use Rattle.std.specs.Prelude.{ℕ, ◌≡◌, ◌≢◌, ◌-◌, ◌*◌, ◌/◌, ◌%◌, true, length, Option, None, Some}
use Rattle.gfs2_layout.specs.Device.{IsBlockSize}
use Rattle.gfs2_layout.specs.Headers.{HasHeader}
use Rattle.gfs2_layout.specs.Holding.{Part, Itself, Pointed, InChain, Cell, Holding, part_at, bytes_at}
use Rattle.gfs2_layout.specs.Inode.{dinode_in, height_in, fan, span, pointer, descend, Fits, HasTree}
use Rattle.gfs2_layout.specs.Structures.{dinode_length, is_regular}

-- A regular file by the rules of an inode, but for what its dinode says of how many blocks it has: that may be told later.
pub record IsFile (h : Holding) : Type 0 where
  pub block_size : IsBlockSize h.size
  pub own : part_at h h.own ≡ Some Itself
  pub only : (b : ℕ) → part_at h b ≡ Some Itself → b ≡ h.own
  pub nobody : part_at h 0 ≡ None  -- pointer 0 leads nowhere
  pub whole : (b : ℕ) (p : Part) → part_at h b ≡ Some p → length (bytes_at h b) ≡ h.size
  pub header : HasHeader 4 400 (bytes_at h h.own)
  pub address : (dinode_in h).num.address ≡ h.own
  pub number : (dinode_in h).num.number ≢ 0
  pub regular : is_regular (dinode_in h) ≡ true
  pub links : (dinode_in h).nlink ≡ 1
  pub fits : Fits h
  pub tree : HasTree h
  pub leafless : (x hash place : ℕ) → part_at h x ≡ Some (InChain hash place) → ⊥

-- the inode with other blocks
abbrev pub with_cells : Holding → (ℕ → Option Cell) → Holding
with_cells h cell = record h { cell = cell }

-- ---- the places of the tree: so many levels above content, and counted from 0 on each level

-- how many places the tree has on a level
abbrev pub places_on : Holding → ℕ → ℕ
places_on h level = fan h.size dinode_length * span h.size (height_in h - 1 - level)

-- the block at a place; 0 where none is. On level 0 these are the blocks of content
abbrev pub block_on : Holding → ℕ → ℕ → ℕ
block_on h level j =
    let up = height_in h - 1 - level in
    descend h up (pointer h dinode_length h.own (j / span h.size up)) (j % span h.size up)

-- the block's part says that it stands so many levels above content, and that the content below it begins at this index
abbrev pub IsPlaced : Holding → ℕ → ℕ → ℕ → Type 0
IsPlaced h c level first = (from k : ℕ) × (part_at h c ≡ Some (Pointed from k level first))
