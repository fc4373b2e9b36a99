-- How far the code has come that writes bytes into a file.
use Rattle.std.specs.Prelude.{ℕ, ◌≡◌, ◌≢◌, ◌+◌, ◌*◌, ◌<◌, ◌≤◌, IsSome, Contains, List, [], ◌++◌, length, take, Option}
use Rattle.std.specs.FinMap.{FinMap}
use Rattle.std.specs.Ordering.{nat_cmp}
use Rattle.drafts.specs.declared.fate.Fate.{Fate}
use Rattle.file_tree.specs.Apply.{overwritten}
use Rattle.gfs2_layout.specs.Holding.{Cell, Holding, bytes_at, part_at}
use Rattle.gfs2_layout.specs.Inode.{block_count, content_block, content_of, dinode_in, height_in, span}
use Rattle.gfs2_layout.specs.Structures.{dinode_length}
use Rattle.glock_names.specs.Views.{Seen}
use Rattle.dinode_tree.specs.Shown.{IsShown}
use Rattle.growth_laws.specs.Files.{IsFile, IsPlaced, with_cells}
use Rattle.growth_laws.specs.Need.{needed_below}
use Rattle.growth_laws.specs.Steps.{IsClearFrom}
use Rattle.growth_drafts.specs.Taken.{DraftsFile, HasBytes, HasTaken}
use Rattle.file_fills.specs.Headers.{KeepsHeaders}
use Rattle.file_fills.specs.Turns.{AreFilled}
use Rattle.file_fills.specs.Causes.{ChangesOnly, IsFilledAt}

-- A file afterwards, with these cells: its dinode says the same, it has these blocks more, which are those that the write needs less now, and each block that it had stands where it stood.
pub record IsFurther (old new : FinMap nat_cmp Fate) (h : Holding) (cell : ℕ → Option Cell) (at end : ℕ) (taken : List ℕ) : Type 0 where
  pub file : IsFile (with_cells h cell)
  pub dinode : dinode_in (with_cells h cell) ≡ dinode_in h
  pub blocks : HasTaken h (with_cells h cell) taken
  pub counted : block_count (with_cells h cell) ≡ block_count h + length taken
  pub parts : (b : ℕ) → IsSome (h.cell b) → part_at (with_cells h cell) b ≡ part_at h b
  pub filled : AreFilled h (with_cells h cell) at end taken
  pub own : take dinode_length (bytes_at (with_cells h cell) h.own) ≡ take dinode_length (bytes_at h h.own)
  pub headers : KeepsHeaders h (with_cells h cell) taken
  pub clear : (from : ℕ) → end ≤ from → IsClearFrom h from → IsClearFrom (with_cells h cell) from
  pub need : needed_below h at end (height_in h) ≡ length taken + needed_below (with_cells h cell) at end (height_in h)
  pub drafted : DraftsFile old new h (with_cells h cell) []
  pub changes : ChangesOnly old new (IsFilledAt (with_cells h cell) at end taken)

-- over a draft that showed a file: afterwards it shows one that got so far, with this content, and with blocks from the front of the room
pub record HasCome (after : Seen) (old new : FinMap nat_cmp Fate) (room left : List ℕ) (h : Holding) (at end : ℕ) (bytes : List ℕ) : Type 0 where
  pub cell : ℕ → Option Cell
  pub taken : List ℕ
  pub shown : IsShown after h.own (with_cells h cell)
  pub further : IsFurther old new h cell at end taken
  pub from_front : room ≡ taken ++ left
  pub content : content_of (with_cells h cell) ≡ bytes

-- the same, where each block that was taken stands above index i of the content, or at it
pub record HasGone (after : Seen) (old new : FinMap nat_cmp Fate) (room left : List ℕ) (h : Holding) (at end i : ℕ) (bytes : List ℕ) : Type 0 where
  pub come : HasCome after old new room left h at end bytes
  pub above : (b level first : ℕ) → Contains come.taken b → IsPlaced (with_cells h come.cell) b level first → (first ≤ i) × (i < first + span h.size level)

-- the same, with a block at index i of the content
pub record HasBlockAt (after : Seen) (old new : FinMap nat_cmp Fate) (room left : List ℕ) (h : Holding) (at end i block : ℕ) (bytes : List ℕ) : Type 0 where
  pub come : HasCome after old new room left h at end bytes
  pub above : (b level first : ℕ) → Contains come.taken b → IsPlaced (with_cells h come.cell) b level first → (first ≤ i) × (i < first + span h.size level)
  pub there : block ≢ 0
  pub is : content_block (with_cells h come.cell) i ≡ block

-- the same, where the first bytes are written, so many, a block stands at each index that has some of them, and none was taken for what is behind
pub record HasPieces (after : Seen) (old new : FinMap nat_cmp Fate) (room left : List ℕ) (h : Holding) (at end n : ℕ) (bytes : List ℕ) : Type 0 where
  pub come : HasCome after old new room left h at end (overwritten at (take n bytes) (content_of h))
  pub upto : (b level first : ℕ) → Contains come.taken b → IsPlaced (with_cells h come.cell) b level first → first * h.size ≤ at + n
  pub there : (i : ℕ) → HasBytes h.size at (at + n) i → content_block (with_cells h come.cell) i ≢ 0
