-- Bytes that are written into a file that is high enough.
use Rattle.std.specs.Prelude.{ℕ, ◌≡◌, ◌≢◌, ◌↔◌, ◌+◌, ◌<◌, ◌≤◌, IsSome, List, [], ◌++◌, length, take}
use Rattle.std.specs.FinMap.{FinMap}
use Rattle.std.specs.Ordering.{nat_cmp}
use Rattle.drafts.specs.declared.fate.Fate.{Fate}
use Rattle.file_tree.specs.Apply.{overwritten}
use Rattle.gfs2_layout.specs.Holding.{Holding, bytes_at}
use Rattle.gfs2_layout.specs.Inode.{block_count, content_of, dinode_in, height_in}
use Rattle.gfs2_layout.specs.Structures.{dinode_length}
use Rattle.glock_names.specs.Views.{Seen, HasBlock}
use Rattle.dinode_tree.specs.Shown.{IsShown}
use Rattle.growth_laws.specs.Files.{IsFile, IsPlaced, block_on, places_on}
use Rattle.growth_laws.specs.Need.{needed_below}
use Rattle.growth_laws.specs.Steps.{IsClearFrom}
use Rattle.growth_drafts.specs.Taken.{AreFreeFor, DraftsFile, HasTaken}
use Rattle.file_walks.specs.Walks.{place_above}
use Rattle.file_fills.specs.Headers.{KeepsHeaders}
use Rattle.file_fills.specs.Turns.{AreFilled}
use Rattle.file_fills.specs.Causes.{ChangesOnly, IsFilledAt}

-- the view has the file's dinode, each of its blocks on the way to the block of content with index i, and that block itself
pub record IsSeenWay (v : Seen) (h : Holding) (i : ℕ) : Type 0 where
  pub dinode : HasBlock v h.own
  pub blocks : (l : ℕ) → l < height_in h → place_above h.size 0 i l < places_on h l → block_on h l (place_above h.size 0 i l) ≢ 0 → HasBlock v (block_on h l (place_above h.size 0 i l))

-- a file in blocks into which bytes from `at` up to `end` are to be written: they end within its content, and the blocks of the room may be taken for it and are enough
pub record IsRoomFor (h : Holding) (at end : ℕ) (room : List ℕ) : Type 0 where
  pub file : IsFile h
  pub in_blocks : height_in h ≢ 0
  pub within : end ≤ (dinode_in h).size
  pub free : AreFreeFor h room
  pub enough : needed_below h at end (height_in h) ≤ length room

-- Over a draft that showed a file: afterwards it shows one with these bytes over its content, with blocks from the front of the room, as many as the write needed, in turn at the places where it needed them; each other block stands where it stood. What stands before pointers stays, and what is clear behind the bytes.
pub record HasFilled (after : Seen) (old new : FinMap nat_cmp Fate) (room left : List ℕ) (h : Holding) (at : ℕ) (bytes : List ℕ) : Type 0 where
  pub g : Holding
  pub taken : List ℕ
  pub shown : IsShown after h.own g
  pub file : IsFile g
  pub content : content_of g ≡ overwritten at bytes (content_of h)
  pub dinode : dinode_in g ≡ dinode_in h
  pub blocks : HasTaken h g taken
  pub places : (b level first : ℕ) → IsSome (h.cell b) → IsPlaced g b level first ↔ IsPlaced h b level first
  pub filled : AreFilled h g at (at + length bytes) taken
  pub own : take dinode_length (bytes_at g h.own) ≡ take dinode_length (bytes_at h h.own)
  pub headers : KeepsHeaders h g taken
  pub clear : (from : ℕ) → at + length bytes ≤ from → IsClearFrom h from → IsClearFrom g from
  pub counted : block_count g ≡ block_count h + length taken
  pub as_many : length taken ≡ needed_below h at (at + length bytes) (height_in h)
  pub from_front : room ≡ taken ++ left
  pub drafted : DraftsFile old new h g []
  pub changes : ChangesOnly old new (IsFilledAt g at (at + length bytes) taken)
