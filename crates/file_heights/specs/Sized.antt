-- The size of a file in blocks, and how many blocks its dinode tells of.
use Rattle.std.specs.Prelude.{ℕ, ◌≡◌, ◌≢◌, ◌≤◌, [], Option}
use Rattle.std.specs.FinMap.{FinMap}
use Rattle.std.specs.Ordering.{nat_cmp}
use Rattle.drafts.specs.declared.fate.Fate.{Fate}
use Rattle.file_tree.specs.Apply.{resized}
use Rattle.gfs2_layout.specs.Holding.{Cell, Holding, bytes_at}
use Rattle.gfs2_layout.specs.Inode.{content_of, dinode_in, height_in}
use Rattle.gfs2_layout.specs.declared.dinode.Dinode.{Dinode}
use Rattle.glock_names.specs.Views.{Seen}
use Rattle.dinode_tree.specs.Shown.{IsShown}
use Rattle.growth_laws.specs.Files.{with_cells}
use Rattle.growth_laws.specs.Need.{needed_below}
use Rattle.growth_laws.specs.Steps.{IsClearFrom}
use Rattle.file_fills.specs.Causes.{ChangesOnly}
use Rattle.file_heights.specs.Grown.{IsGrown}
use Rattle.file_heights.specs.Keeping.{KeepsHeads}

-- what the dinode says: of all that it said, only the size, the count of blocks and the height are others
abbrev pub dinode_as : Dinode → ℕ → ℕ → ℕ → Dinode
dinode_as d size blocks height = record d { size = size; blocks = blocks; height = height }

-- Over a draft that showed a file: afterwards it shows the file with this size and this count of blocks, and else the same; a write needs what it
-- needed, and what is clear behind the end stays so behind a later one. Only the dinode's block is another.
pub record HasSize (after : Seen) (old new : FinMap nat_cmp Fate) (h : Holding) (size blocks : ℕ) : Type 0 where
  pub cell : ℕ → Option Cell
  pub shown : IsShown after h.own (with_cells h cell)
  pub grown : IsGrown old new h cell (dinode_as (dinode_in h) size blocks (height_in h)) (resized size (content_of h)) []
  pub need : (at end height : ℕ) → needed_below (with_cells h cell) at end height ≡ needed_below h at end height
  pub heads : KeepsHeads h (with_cells h cell)
  pub clear : (dinode_in h).size ≤ size → IsClearFrom h (dinode_in h).size → IsClearFrom (with_cells h cell) size
  pub others : (b : ℕ) → b ≢ h.own → bytes_at (with_cells h cell) b ≡ bytes_at h b
  pub changes : ChangesOnly old new (λ b. b ≡ h.own)
