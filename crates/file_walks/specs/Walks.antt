-- The walk from a file's dinode down to a place of its tree.
use Rattle.std.specs.Prelude.{ℕ, ◌≡◌, ◌≢◌, ◌⊎◌, ◌+◌, ◌-◌, ◌*◌, ◌/◌, ◌<◌, ◌≤◌, ◌==◌, if◌then◌else◌, Option, None, Some}
use Rattle.gfs2_layout.specs.Holding.{Holding}
use Rattle.gfs2_layout.specs.Inode.{Leads, header_length, fan, span, pointer, height_in, IsPointed}
use Rattle.glock_names.specs.Views.{Seen, HasBlock}
use Rattle.dinode_tree.specs.Below.{IsBelow}
use Rattle.growth_laws.specs.Blocks.{start_in}
use Rattle.growth_laws.specs.Files.{places_on, block_on}
use Rattle.file_walks.specs.declared.walks.Stop.{Stop}

-- the place on a level further up, or on its own, above place j of a level
abbrev pub place_above : ℕ → ℕ → ℕ → ℕ → ℕ
place_above size level j up = j / span size (up - level)

-- the block of content with index i stands below place j of a level
pub record IsUnder (h : Holding) (level j i : ℕ) : Type 0 where
  pub from : j * span h.size level ≤ i
  pub until : i < (j + 1) * span h.size level

-- the tree has the place
pub record IsPlace (h : Holding) (level j : ℕ) : Type 0 where
  pub low : level < height_in h
  pub within : j < places_on h level

-- the place of a stop on the walk to place j of a level
abbrev pub place_of : Holding → ℕ → ℕ → Stop → ℕ
place_of h level j stop = place_above h.size level j stop.level

-- the index of the first block of content below it
abbrev pub first_of : Holding → ℕ → ℕ → Stop → ℕ
first_of h level j stop = place_of h level j stop * span h.size stop.level

-- a stop on the walk to place j of a level: the pointer of that place, or of one above it, and where it leads
pub record IsPassed (h : Holding) (level j : ℕ) (stop : Stop) : Type 0 where
  pub above : level ≤ stop.level
  pub place : IsPlace h stop.level (place_of h level j stop)
  pub pointed : IsPointed h stop.block stop.pointer.from stop.pointer.index stop.level (first_of h level j stop)
  pub start : start_in h stop.pointer.from ≡ stop.pointer.start
  pub leads : block_on h stop.level (place_of h level j stop) ≡ stop.block

-- the walk ends there: at the place itself, or where the pointer leads nowhere
pub record IsStop (h : Holding) (level j : ℕ) (stop : Stop) : Type 0 where
  pub passed : IsPassed h level j stop
  pub ended : (stop.level ≡ level) ⊎ (stop.block ≡ 0)
  pub block : block_on h level j ≡ (if stop.level == level then stop.block else 0)

-- with None the tree has no such place
abbrev pub IsWalk : Holding → ℕ → ℕ → Option Stop → Type 0
IsWalk h level j None = ¬ (IsPlace h level j)
IsWalk h level j (Some stop) = IsPlace h level j × IsStop h level j stop

-- where the pointer of a stop leads somewhere, it is one of the inode's, whether that is sound or not
abbrev pub LeadsOn : Holding → ℕ → ℕ → Stop → Type 0
LeadsOn h level j stop = stop.block ≢ 0 → Leads h stop.pointer.from stop.pointer.index stop.level (first_of h level j stop) stop.block

-- the block is the inode's own, or one to which its pointers lead, whether it is sound or not
abbrev pub IsOfInode : Holding → ℕ → Type 0
IsOfInode h b = (b ≡ h.own) ⊎ IsBelow h b

-- the view has each block on the way to place j of a level that stands above a stop
abbrev pub AreSeenAbove : Seen → Holding → ℕ → ℕ → Stop → Type 0
AreSeenAbove v h level j stop = (l : ℕ) → stop.level < l → l < height_in h → HasBlock v (block_on h l (place_above h.size level j l))

-- every pointer of an indirect block leads nowhere
abbrev pub LeadsNowhere : Holding → ℕ → Type 0
LeadsNowhere h b = (k : ℕ) → k < fan h.size header_length → pointer h header_length b k ≡ 0
