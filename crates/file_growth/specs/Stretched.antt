-- A file that is long and high enough for a write, and counts the blocks that it is to have.
use Rattle.std.specs.Prelude.{ℕ, ◌≡◌, ◌≢◌, ◌⊎◌, ◌+◌, ◌%◌, ◌^◌, ◌<◌, ◌≤◌, List, [], ◌++◌, length, Contains, Option}
use Rattle.std.specs.FinMap.{FinMap}
use Rattle.std.specs.Ordering.{nat_cmp}
use Rattle.drafts.specs.declared.fate.Fate.{Fate}
use Rattle.file_tree.specs.Apply.{file_limit, resized}
use Rattle.gfs2_layout.specs.Holding.{Cell, Holding}
use Rattle.gfs2_layout.specs.Inode.{content_of, dinode_in, height_in}
use Rattle.glock_names.specs.Views.{Seen}
use Rattle.dinode_tree.specs.Shown.{IsShown}
use Rattle.growth_laws.specs.Files.{IsFile, with_cells}
use Rattle.growth_laws.specs.Need.{height_for, needed_below}
use Rattle.growth_laws.specs.Steps.{IsClearFrom}
use Rattle.growth_drafts.specs.Taken.{AreFreeFor}
use Rattle.file_heights.specs.Causes.{ChangesOnly}
use Rattle.file_heights.specs.Sized.{dinode_as}
use Rattle.file_heights.specs.Grown.{AreLevels, IsGrown, IsRisen, IsUnclear}
use Rattle.file_growth.specs.Written.{size_with}

-- a file that is to have its content in blocks, up to this end, with room for those that a write up to it needs
pub record CanStretch (h : Holding) (at end : ℕ) (room : List ℕ) : Type 0 where
  pub file : IsFile h
  pub in_blocks : height_for h (size_with h end) ≢ 0
  pub short : end ≤ file_limit
  pub free : AreFreeFor h room
  pub enough : needed_below h at end (height_for h (size_with h end)) ≤ length room

-- a block to which this does something: the dinode's, one that is taken, and, where the end moves on, an unclear last one of content
abbrev pub IsStretchedAt : Holding → ℕ → List ℕ → ℕ → Type 0
IsStretchedAt h end taken b = (b ≡ h.own) ⊎ Contains taken b ⊎ (((dinode_in h).size < end) × IsUnclear h (dinode_in h).size b)

-- over a draft that showed it: afterwards it shows it so long and so high, with blocks from the front of the room for the new levels, and it needs so many less
pub record HasStretched (after : Seen) (old new : FinMap nat_cmp Fate) (room left : List ℕ) (h : Holding) (at end need : ℕ) : Type 0 where
  pub cell : ℕ → Option Cell
  pub taken : List ℕ
  pub shown : IsShown after h.own (with_cells h cell)
  pub grown : IsGrown old new h cell (dinode_as (dinode_in h) (size_with h end) (((dinode_in h).blocks + need) % 2 ^ 64) (height_for h (size_with h end))) (resized (size_with h end) (content_of h)) taken
  pub levels : AreLevels h (with_cells h cell) (height_for h (size_with h end)) taken
  pub clear : (height_in h ≢ 0 → (dinode_in h).size < end ⊎ IsClearFrom h (dinode_in h).size) → IsClearFrom (with_cells h cell) (size_with h end)
  pub from_front : room ≡ taken ++ left
  pub less : needed_below h at end (height_for h (size_with h end)) ≡ length taken + needed_below (with_cells h cell) at end (height_for h (size_with h end))
  pub changes : ChangesOnly old new (IsStretchedAt h end taken)

-- ---- on the way there

-- afterwards it shows the same file, and where its end moves on, one in blocks has nothing but zeros behind it
pub record HasEnd (after : Seen) (old new : FinMap nat_cmp Fate) (h : Holding) (end : ℕ) : Type 0 where
  pub cell : ℕ → Option Cell
  pub shown : IsShown after h.own (with_cells h cell)
  pub same : IsRisen old new h cell (height_in h) []
  pub clear : height_in h ≢ 0 → (dinode_in h).size < end → IsClearFrom (with_cells h cell) (dinode_in h).size
  pub changes : ChangesOnly old new (λ b. ((dinode_in h).size < end) × IsUnclear h (dinode_in h).size b)
