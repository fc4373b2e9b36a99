-- How far the code has come that frees the blocks past an end.
use Rattle.std.specs.Prelude.{ℕ, [], ◌≡◌, ◌≢◌, ◌⊎◌, ◌+◌, ◌*◌, ◌<◌, ◌≤◌, IsSome, List, length, take, Contains, Option}
use Rattle.std.specs.FinMap.{FinMap}
use Rattle.std.specs.Ordering.{nat_cmp}
use Rattle.drafts.specs.Fates.{seen_with}
use Rattle.drafts.specs.declared.fate.Fate.{Fate}
use Rattle.file_tree.specs.Apply.{resized}
use Rattle.gfs2_layout.specs.Holding.{Cell, Holding, part_at, bytes_at}
use Rattle.gfs2_layout.specs.Inode.{block_count, content_count, content_of, dinode_in, height_in, span}
use Rattle.glock_names.specs.Views.{HasBlock, Seen}
use Rattle.dinode_tree.specs.Shown.{IsShown}
use Rattle.growth_laws.specs.Blocks.{start_in}
use Rattle.growth_laws.specs.Files.{IsFile, IsPlaced, block_on, places_on, with_cells}
use Rattle.growth_laws.specs.Steps.{IsClearFrom}
use Rattle.growth_drafts.specs.Taken.{DraftsFile, HasFreed, IsContentIn, IsDistinct}
use Rattle.file_walks.specs.Walks.{place_above}
use Rattle.file_heights.specs.Grown.{IsGrown, IsUnclear}
use Rattle.file_heights.specs.Keeping.{KeepsHeads}
use Rattle.file_fills.specs.Causes.{ChangesOnly, LeadsToOne}
use Rattle.file_heights.specs.Sized.{dinode_as}
use Rattle.file_cuts.specs.Cut.{IsClearBehind, IsPastEnd, height_at}

-- a place that was gone over: of a lower level, or before this place of its own
abbrev pub IsBefore : Holding → ℕ → ℕ → ℕ → ℕ → Type 0
IsBefore h level place l f = (l < level) ⊎ ((l ≡ level) × (f < place * span h.size level))

-- A file with these cells: these blocks are gone, each of which stood past the end, and of those that were gone over none is left that does.
pub record IsCutTo (old new : FinMap nat_cmp Fate) (h : Holding) (cell : ℕ → Option Cell) (end level place : ℕ) (freed : List ℕ) : Type 0 where
  pub file : IsFile (with_cells h cell)
  pub dinode : dinode_in (with_cells h cell) ≡ dinode_in h
  pub blocks : HasFreed h (with_cells h cell) freed
  pub counted : block_count h ≡ block_count (with_cells h cell) + length freed
  pub once : IsDistinct freed
  pub parts : (b : ℕ) → IsSome (cell b) → part_at (with_cells h cell) b ≡ part_at h b
  pub heads : (b : ℕ) → IsSome (cell b) → take (start_in h b) (bytes_at (with_cells h cell) b) ≡ take (start_in h b) (bytes_at h b)
  pub front : (n : ℕ) → n ≤ end * h.size → take n (content_of (with_cells h cell)) ≡ take n (content_of h)
  pub only : (b : ℕ) → Contains freed b → (l f : ℕ) × IsPlaced h b l f × IsPastEnd h end l f
  pub stays : (b l f : ℕ) → IsPlaced (with_cells h cell) b l f → IsBefore h level place l f → IsPastEnd h end l f → ⊥
  pub drafted : DraftsFile old new h (with_cells h cell) freed
  pub contents : (b : ℕ) → IsContentIn (with_cells h cell) b → bytes_at (with_cells h cell) b ≡ bytes_at h b
  pub changes : ChangesOnly old new (λ b. Contains freed b ⊎ LeadsToOne h freed b)

-- the view has the file's dinode, and each of its indirect blocks on the way to the block of content with index i
pub record IsSeenOver (v : Seen) (h : Holding) (i : ℕ) : Type 0 where
  pub dinode : HasBlock v h.own
  pub blocks : (l : ℕ) → 1 ≤ l → l < height_in h → place_above h.size 0 i l < places_on h l → block_on h l (place_above h.size 0 i l) ≢ 0 → HasBlock v (block_on h l (place_above h.size 0 i l))

-- over a draft over this view that showed a file: afterwards it shows one that got so far, and has its indirect blocks on the way to content past the end
pub record HasCutTo (v : Seen) (old new : FinMap nat_cmp Fate) (h : Holding) (end level place : ℕ) (freed : List ℕ) : Type 0 where
  pub cell : ℕ → Option Cell
  pub shown : IsShown (seen_with v new) h.own (with_cells h cell)
  pub cut : IsCutTo old new h cell end level place freed
  pub ways : (i : ℕ) → end ≤ i → (i ≡ end) ⊎ (i < content_count h) → IsSeenOver (seen_with v new) (with_cells h cell) i

-- ---- what the code that frees needs of a file

-- the file with its dinode in this block, each of whose blocks is one of the image's
pub record CanFree (h : Holding) (inode : ℕ) : Type 0 where
  pub file : IsFile h
  pub own : h.own ≡ inode
  pub inside : (b : ℕ) → IsSome (h.cell b) → b < h.count

-- over a draft that showed the file without the blocks past its new end: afterwards it shows it with that end, and tells of so many blocks
pub record HasNewEnd (after : Seen) (old new : FinMap nat_cmp Fate) (h : Holding) (size blocks : ℕ) : Type 0 where
  pub cell : ℕ → Option Cell
  pub shown : IsShown after h.own (with_cells h cell)
  pub grown : IsGrown old new h cell (dinode_as (dinode_in h) size blocks (height_at h size)) (resized size (content_of h)) []
  pub clear : height_in (with_cells h cell) ≢ 0 → IsClearFrom (with_cells h cell) size
  pub clear_behind : height_in (with_cells h cell) ≡ 0 → IsClearBehind (with_cells h cell) size
  pub heads : KeepsHeads h (with_cells h cell)
  pub changes : ChangesOnly old new (λ b. (b ≡ h.own) ⊎ IsUnclear h size b)
