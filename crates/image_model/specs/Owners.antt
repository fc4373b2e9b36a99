-- Who owns each block, and what an inode has.
use Rattle.std.specs.Prelude.{ℕ, ◌≡◌, ◌==◌, Bool, true, false, if◌then◌else◌, List, Option, None, Some}
use Rattle.gfs2_layout.specs.Holding.{Part, Itself, Pointed, InChain, Cell, Holding}
use Rattle.image_model.specs.Image.{Image}

-- the owner of a block, and the block's part in it
pub data Owner : Type 0 where
  Super : Owner  -- the superblock, and the blocks before it
  InGroup : ℕ → Owner  -- header or bitmap of the group whose header is there
  Free : ℕ → Owner  -- a free block of that group
  Nobody : Owner  -- at a group's end, or past the image's
  Root : Owner  -- the dinode of the root directory
  Master : Owner  -- the dinode of the master directory
  Named : ℕ → List ℕ → Owner  -- the dinode to which this name leads in the directory whose dinode is there
  Below : ℕ → ℕ → ℕ → ℕ → ℕ → Owner  -- of the inode there: `Below inode block pointer level first`
  Chained : ℕ → ℕ → ℕ → Owner  -- of the directory there: `Chained inode hash place`

-- `Below inode block pointer level first`: this pointer of that block leads here, so many levels above content, and the
-- content here and below begins at the block of content with index `first`.
-- `Chained inode hash place`: of the chain for the hashes from this one on, the leaf at this place.

abbrev pub Owners : Type 0
Owners = ℕ → Owner

-- where an inode is named
pub record Up : Type 0 where
  pub parent : ℕ
  pub name : List ℕ

abbrev pub up_of : Owner → Option Up
up_of (Named parent name) = Some (record { parent = parent; name = name })
up_of _ = None

-- the directory above the one in this block: the two top directories are their own
abbrev pub parent_of : ℕ → Owner → ℕ
parent_of a (Named parent name) = parent
parent_of a _ = a

abbrev pub is_dinode : Owner → Bool
is_dinode Root = true
is_dinode Master = true
is_dinode (Named parent name) = true
is_dinode _ = false

-- the block is in use: a dinode, or an inode's beside it
abbrev pub IsUsed : Owner → Type 0
IsUsed Root = Unit {0}
IsUsed Master = Unit {0}
IsUsed (Named parent name) = Unit {0}
IsUsed (Below a b k level first) = Unit {0}
IsUsed (Chained a hash place) = Unit {0}
IsUsed _ = ⊥

-- the block is one of this inode's beside its dinode
abbrev pub IsWithin : ℕ → Owner → Type 0
IsWithin a (Below d b k level first) = d ≡ a
IsWithin a (Chained d hash place) = d ≡ a
IsWithin a _ = ⊥

-- both are leaves of one chain
abbrev pub AreOneChain : Owner → Owner → Type 0
AreOneChain (Chained a hash place) (Chained b other later) = (a ≡ b) × (hash ≡ other)
AreOneChain _ _ = ⊥

-- ---- what an inode has: its blocks, and the part of each

-- the part in inode a of block b, whose owner is given
abbrev pub part_in : ℕ → ℕ → Owner → Option Part
part_in a b Root = if b == a then Some Itself else None
part_in a b Master = if b == a then Some Itself else None
part_in a b (Named parent name) = if b == a then Some Itself else None
part_in a b (Below d parent k level first) = if d == a then Some (Pointed parent k level first) else None
part_in a b (Chained d hash place) = if d == a then Some (InChain hash place) else None
part_in a b _ = None

abbrev pub cell_of : Option Part → List ℕ → Option Cell
cell_of None bytes = None
cell_of (Some part) bytes = Some (record { part = part; bytes = bytes })

-- what the inode in block a has of a block
unfoldable pub cell_in : Image → Owners → ℕ → ℕ → Option Cell
cell_in im owners a b = cell_of (part_in a b (owners b)) (im.at b)

abbrev pub holding : Image → Owners → ℕ → Holding
holding im owners a = record { size = im.size; count = im.count; own = a; cell = cell_in im owners a }
