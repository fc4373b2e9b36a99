-- Laws of a file that grows: what stands past its end, which height it has afterwards, and what it needs on the way.
use Rattle.std.specs.Prelude.{ℕ, suc, ◌≡◌, ◌≢◌, ◌+◌, ◌-◌, ◌*◌, ◌<◌, ◌≤◌, List, length, drop, take, replicate, Option, Some}
use Rattle.file_tree.specs.Apply.{file_limit}
use Rattle.gfs2_layout.specs.Headers.{HasHeader}
use Rattle.gfs2_layout.specs.Holding.{Pointed, Cell, Holding, part_at, bytes_at}
use Rattle.gfs2_layout.specs.Inode.{dinode_in, height_in, fan, span, content_block, content_count, content_of, block_count, pieces, unit}
use Rattle.gfs2_layout.specs.Structures.{dinode_length}
use Rattle.growth_laws.specs.Files.{IsFile, with_cells}
use Rattle.growth_laws.specs.Need.{capacity, height_for, has_content, needed_below}
use Rattle.growth_laws.specs.Steps.{IsRaised, IsUnstuffed, IsBareTo, IsContentPut, IsSized, IsClearFrom}
use Rattle.std.specs.Prelude.{true, false}

-- ---- past the end

-- bytes put into the last block of content from the end on leave the content
abbrev pub PutsPastTheEnd : Type 0
PutsPastTheEnd = (h : Holding) (cell : ℕ → Option Cell) (i : ℕ) (new : List ℕ) → IsFile h → IsContentPut h cell i new
    → take ((dinode_in h).size - i * h.size) new ≡ take ((dinode_in h).size - i * h.size) (bytes_at h (content_block h i))
    → IsFile (with_cells h cell) × (content_of (with_cells h cell) ≡ content_of h)

-- with zeros there the file is clear from its end on
abbrev pub ZerosAreClear : Type 0
ZerosAreClear = (h : Holding) (cell : ℕ → Option Cell) (i : ℕ) (new : List ℕ) → IsFile h → IsContentPut h cell i new → i + 1 ≡ content_count h
    → drop ((dinode_in h).size - i * h.size) new ≡ replicate (h.size - ((dinode_in h).size - i * h.size)) 0
    → IsClearFrom (with_cells h cell) (dinode_in h).size

-- a file of whole blocks, and one with a hole at its end, is clear as it is
abbrev pub WholeFilesAreClear : Type 0
WholeFilesAreClear = (h : Holding) → IsFile h → content_count h * h.size ≡ (dinode_in h).size → IsClearFrom h (dinode_in h).size

abbrev pub HolesAreClear : Type 0
HolesAreClear = (h : Holding) (i : ℕ) → IsFile h → i + 1 ≡ content_count h → content_block h i ≡ 0 → IsClearFrom h (dinode_in h).size

-- a file that rises stays clear, one whose content moves to a block becomes so, and one without blocks is so
abbrev pub RisesStayClear : Type 0
RisesStayClear = (h : Holding) (cell : ℕ → Option Cell) (level b from : ℕ) → IsFile h → IsRaised h cell level b → IsClearFrom h from → IsClearFrom (with_cells h cell) from

abbrev pub MovedContentIsClear : Type 0
MovedContentIsClear = (h : Holding) (cell : ℕ → Option Cell) (b : ℕ) → IsFile h → IsUnstuffed h cell b → IsClearFrom (with_cells h cell) (dinode_in h).size

abbrev pub BareFilesAreClear : Type 0
BareFilesAreClear = (h : Holding) (cell : ℕ → Option Cell) (height from : ℕ) → IsFile h → IsBareTo h cell height → height ≢ 0 → IsClearFrom (with_cells h cell) from

-- ---- the count of blocks

-- the dinode says another count of blocks; what stands behind it, and every other block, stays
pub record IsTold (h : Holding) (cell : ℕ → Option Cell) (blocks : ℕ) : Type 0 where
  pub dinode : dinode_in (with_cells h cell) ≡ record (dinode_in h) { blocks = blocks }
  pub own_header : HasHeader 4 400 (bytes_at (with_cells h cell) h.own)
  pub own_whole : length (bytes_at (with_cells h cell) h.own) ≡ h.size
  pub behind : drop dinode_length (bytes_at (with_cells h cell) h.own) ≡ drop dinode_length (bytes_at h h.own)
  pub parts : (x : ℕ) → part_at (with_cells h cell) x ≡ part_at h x
  pub others : (x : ℕ) → x ≢ h.own → bytes_at (with_cells h cell) x ≡ bytes_at h x

abbrev pub CountsAreTold : Type 0
CountsAreTold = (h : Holding) (cell : ℕ → Option Cell) (blocks : ℕ) → IsFile h → IsTold h cell blocks
    → IsFile (with_cells h cell) × (content_of (with_cells h cell) ≡ content_of h) × (block_count (with_cells h cell) ≡ block_count h)

-- ---- the height

-- the height for a size reaches it, up to the size that a file may have
abbrev pub HeightsReach : Type 0
HeightsReach = (h : Holding) (size : ℕ) → IsFile h → size ≤ file_limit → (height_in h ≤ height_for h size) × (height_for h size ≤ 10) × (size ≤ capacity h.size (height_for h size))

-- and no height from the file's on that is less does
abbrev pub LowerHeightsAreShort : Type 0
LowerHeightsAreShort = (h : Holding) (size height : ℕ) → height_in h ≤ height → height < height_for h size → capacity h.size height < size

-- in blocks: the size takes no more blocks of content than the height's pointers reach
abbrev pub CapacityReaches : Type 0
CapacityReaches = (h : Holding) (size level : ℕ) → IsFile h → size ≤ capacity h.size (suc level) → pieces size (unit h) ≤ fan h.size dinode_length * span h.size level

-- ---- content that goes along

-- a file without content to go along has no block beside its dinode's
abbrev pub BareFilesHaveNoBlock : Type 0
BareFilesHaveNoBlock = (h : Holding) (b from k level first : ℕ) → IsFile h → has_content h ≡ false → part_at h b ≢ Some (Pointed from k level first)

-- ---- what is needed

-- bytes of content, another size of a file in blocks, and another height of one without them change nothing that a write needs
abbrev pub PutsKeepNeed : Type 0
PutsKeepNeed = (h : Holding) (cell : ℕ → Option Cell) (i : ℕ) (new : List ℕ) (at end height : ℕ) → IsFile h → IsContentPut h cell i new
    → needed_below (with_cells h cell) at end height ≡ needed_below h at end height

abbrev pub SizesKeepNeed : Type 0
SizesKeepNeed = (h : Holding) (cell : ℕ → Option Cell) (size at end height : ℕ) → IsFile h → IsSized h cell size
    → needed_below (with_cells h cell) at end height ≡ needed_below h at end height

abbrev pub BareHeightsKeepNeed : Type 0
BareHeightsKeepNeed = (h : Holding) (cell : ℕ → Option Cell) (to at end height : ℕ) → IsFile h → IsBareTo h cell to
    → needed_below (with_cells h cell) at end height ≡ needed_below h at end height

-- a file needs nothing for no bytes up to its own height
abbrev pub NothingNeedsNothing : Type 0
NothingNeedsNothing = (h : Holding) (at height : ℕ) → height ≤ height_in h → needed_below h at at height ≡ 0

-- what a file of any kind needs to grow: a block for each new level, where it has content to go along
abbrev pub GrowthNeedsLevels : Type 0
GrowthNeedsLevels = (h : Holding) (at height : ℕ) → has_content h ≡ true → needed_below h at at height ≡ height - height_in h
