-- A file that grows in a draft: what stays of it, what it gets, and how high it becomes.
use Rattle.std.specs.Prelude.{ℕ, ◌≡◌, ◌≢◌, ◌⊎◌, ◌↔◌, ◌+◌, ◌*◌, ◌<◌, ◌≤◌, max, Contains, IsSome, true, List, [], ◌++◌, length, Option}
use Rattle.std.specs.FinMap.{FinMap}
use Rattle.std.specs.Ordering.{nat_cmp}
use Rattle.drafts.specs.declared.fate.Fate.{Fate}
use Rattle.file_tree.specs.Apply.{file_limit}
use Rattle.gfs2_layout.specs.Holding.{Cell, Holding, bytes_at}
use Rattle.gfs2_layout.specs.Inode.{block_count, content_of, dinode_in, height_in}
use Rattle.gfs2_layout.specs.Writing.{zeros_from}
use Rattle.gfs2_layout.specs.declared.dinode.Dinode.{Dinode}
use Rattle.glock_names.specs.Views.{Seen}
use Rattle.dinode_tree.specs.Shown.{IsShown}
use Rattle.growth_laws.specs.Files.{IsFile, IsPlaced, with_cells}
use Rattle.growth_laws.specs.Need.{has_content, height_for, needed_below}
use Rattle.growth_laws.specs.Steps.{IsClearFrom}
use Rattle.growth_drafts.specs.Taken.{AreFreeFor, DraftsFile, HasTaken, IsContentIn}
use Rattle.file_fills.specs.Headers.{KeepsHeaders}
use Rattle.file_fills.specs.Turns.{StandIn}
use Rattle.file_fills.specs.Causes.{ChangesOnly}

-- ---- a file afterwards

-- With these cells: the dinode says this, and its pads and reserved bytes are as before; this is the content; it has these blocks more, and each that it had stands where it stood, an indirect one with the header that it had.
pub record IsGrown (old new : FinMap nat_cmp Fate) (h : Holding) (cell : ℕ → Option Cell) (d : Dinode) (bytes taken : List ℕ) : Type 0 where
  pub file : IsFile (with_cells h cell)
  pub dinode : dinode_in (with_cells h cell) ≡ d
  pub content : content_of (with_cells h cell) ≡ bytes
  pub blocks : HasTaken h (with_cells h cell) taken
  pub counted : block_count (with_cells h cell) ≡ block_count h + length taken
  pub places : (b level first : ℕ) → IsSome (h.cell b) → IsPlaced (with_cells h cell) b level first ↔ IsPlaced h b level first
  pub headers : KeepsHeaders h (with_cells h cell) taken
  pub drafted : DraftsFile old new h (with_cells h cell) []

-- ---- its height

-- a new level of a file with content, above all that it has, and there the first place
abbrev pub IsNewLevel : Holding → ℕ → ℕ → Type 0
IsNewLevel h level first = (has_content h ≡ true) × (height_in h ≤ level) × (first ≡ 0)

abbrev pub IsLower : ℕ → ℕ → ℕ → ℕ → Type 0
IsLower level first level' first' = level < level'

-- Each new level of a file with content, up to a height, has one of the blocks at its first place, the lowest the first of them; and there are no others.
pub record AreLevels (h g : Holding) (height : ℕ) (taken : List ℕ) : Type 0 where
  pub each : (level : ℕ) → IsNewLevel h level 0 → level < height → (b : ℕ) × Contains taken b × IsPlaced g b level 0
  pub only : (b level first : ℕ) → Contains taken b → IsPlaced g b level first → IsNewLevel h level first × (level < height)
  pub turn : StandIn IsLower g taken

-- The same file, so high, with a block for each new level. A write to it needs as many blocks less as were taken; what is clear stays so; and it has
-- content that goes along as before.
pub record IsRisen (old new : FinMap nat_cmp Fate) (h : Holding) (cell : ℕ → Option Cell) (height : ℕ) (taken : List ℕ) : Type 0 where
  pub grown : IsGrown old new h cell (record (dinode_in h) { height = height }) (content_of h) taken
  pub need : (at end to : ℕ) → height ≤ to → needed_below h at end to ≡ length taken + needed_below (with_cells h cell) at end to
  pub clear : height ≢ 0 → (height_in h ≢ 0 → IsClearFrom h (dinode_in h).size) → IsClearFrom (with_cells h cell) (dinode_in h).size
  pub along : has_content (with_cells h cell) ≡ has_content h
  pub levels : AreLevels h (with_cells h cell) height taken

-- Over a draft that showed a file: afterwards it shows it so high, with blocks from the front of the room, and this is its dinode. Nothing
-- becomes of any block but the dinode's and those that were taken.
pub record HasRisen (after : Seen) (old new : FinMap nat_cmp Fate) (room left : List ℕ) (h : Holding) (height : ℕ) (d : Dinode) : Type 0 where
  pub cell : ℕ → Option Cell
  pub taken : List ℕ
  pub shown : IsShown after h.own (with_cells h cell)
  pub risen : IsRisen old new h cell height taken
  pub from_front : room ≡ taken ++ left
  pub dinode : d ≡ dinode_in (with_cells h cell)
  pub changes : ChangesOnly old new (λ b. (b ≡ h.own) ⊎ Contains taken b)

-- a file that is to have so many bytes, no fewer than it has: where it has content that goes along, the room has a block for each new level
pub record CanGrow (h : Holding) (size : ℕ) (room : List ℕ) : Type 0 where
  pub file : IsFile h
  pub least : (dinode_in h).size ≤ size
  pub short : size ≤ max (dinode_in h).size file_limit
  pub free : AreFreeFor h room
  pub enough : has_content h ≡ true → height_for h size ≤ height_in h + length room

-- ---- its end

-- this is the block of content with the last byte of so many, and it has something but zeros behind that byte
pub record IsUnclear (h : Holding) (size b : ℕ) : Type 0 where
  pub index : ℕ
  pub behind : ℕ
  pub placed : IsPlaced h b 0 index
  pub some : 0 < behind
  pub within : behind ≤ h.size
  pub ends : index * h.size + behind ≡ size
  pub unclear : bytes_at h b ≢ zeros_from behind (bytes_at h b)

-- Over a draft that showed a file in blocks: afterwards it shows the same one, with nothing but zeros behind its end; no block but one of content
-- has other bytes. Where these were there, nothing becomes of any block.
pub record HasCleared (after : Seen) (old new : FinMap nat_cmp Fate) (h : Holding) : Type 0 where
  pub cell : ℕ → Option Cell
  pub shown : IsShown after h.own (with_cells h cell)
  pub same : IsRisen old new h cell (height_in h) []
  pub clear : IsClearFrom (with_cells h cell) (dinode_in h).size
  pub others : (b : ℕ) → (IsContentIn h b → ⊥) → bytes_at (with_cells h cell) b ≡ bytes_at h b
  pub changes : ChangesOnly old new (IsUnclear h (dinode_in h).size)
