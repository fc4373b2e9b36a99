-- What a write makes of a file.
use Rattle.std.specs.Prelude.{ℕ, ◌≡◌, ◌≢◌, ◌⊎◌, ◌↔◌, ◌+◌, ◌*◌, ◌^◌, ◌<◌, ◌≤◌, max, true, Contains, IsSome, List, [], ◌++◌, length, drop}
use Rattle.std.specs.FinMap.{FinMap}
use Rattle.std.specs.Ordering.{nat_cmp}
use Rattle.drafts.specs.declared.fate.Fate.{Fate}
use Rattle.file_tree.specs.Apply.{overwritten}
use Rattle.gfs2_layout.specs.Holding.{Holding, bytes_at}
use Rattle.gfs2_layout.specs.Inode.{content_of, dinode_in, head_of, height_in, span}
use Rattle.gfs2_layout.specs.Structures.{dinode_length}
use Rattle.gfs2_layout.specs.declared.dinode.Dinode.{Dinode}
use Rattle.glock_names.specs.Views.{Seen}
use Rattle.dinode_tree.specs.Shown.{IsShown}
use Rattle.growth_laws.specs.Files.{IsPlaced}
use Rattle.growth_laws.specs.Need.{height_for, is_needed, needed}
use Rattle.growth_laws.specs.Steps.{IsClearFrom}
use Rattle.file_heights.specs.Headers.{KeepsHeaders}
use Rattle.file_heights.specs.Turns.{IsMetBefore, StandIn}
use Rattle.file_heights.specs.Grown.{IsUnclear, IsNewLevel}
use Rattle.file_heights.specs.Causes.{ChangesOnly, IsFilledAt}
use Rattle.file_heights.specs.Sized.{dinode_as}
use Rattle.growth_drafts.specs.Taken.{AreFreeFor, DraftsFile, HasTaken, IsCounted}

-- a file, in an image of fewer than 2^64 blocks, to which so many bytes from a place on can be written: blocks of the room may be taken for it, and are enough
pub record CanWrite (h : Holding) (at len : ℕ) (room : List ℕ) : Type 0 where
  pub counted : IsCounted h
  pub few : h.count < 2 ^ 64
  pub free : AreFreeFor h room
  pub enough : needed h at len ≤ length room

-- the size of a file after a write that ends here
abbrev pub size_with : Holding → ℕ → ℕ
size_with h end = max (dinode_in h).size end

-- Of two places at which a write to the file needs blocks: the first one's is taken before the other's. First come the new levels of a file with
-- content, the lowest before the others; then what is met on the way down to each block of content in turn.
abbrev pub IsTakenBefore : Holding → ℕ → ℕ → ℕ → ℕ → Type 0
IsTakenBefore h level first level' first' =
    (IsNewLevel h level first × (IsNewLevel h level' first' → level < level'))
    ⊎ ((IsNewLevel h level' first' → ⊥) × IsMetBefore level first level' first')

-- Bytes were written over the content from a place on, with zeros between its end and the place. These blocks were taken, each for a place at which
-- the write needed one, in the order of these places; every other block stands where it stood, an indirect one with the header that it had, and the dinode
-- with its pads and reserved bytes. In a file in blocks nothing but zeros stands behind the end of the last block of content where the end moved on or the content came from the dinode's block, and
-- also where nothing else stood there before, as where that block is a new one. Content that stands in the dinode's block has the bytes behind it
-- that it had.
pub record IsWritten (h g : Holding) (at : ℕ) (new taken : List ℕ) : Type 0 where
  pub sound : IsCounted g
  pub content : content_of g ≡ overwritten at new (content_of h)
  pub dinode : dinode_in g ≡ dinode_as (dinode_in h) (size_with h (at + length new)) ((dinode_in h).blocks + length taken) (height_for h (size_with h (at + length new)))
  pub head : head_of g ≡ head_of h
  pub blocks : HasTaken h g taken
  pub places : (b level first : ℕ) → IsSome (h.cell b) → IsPlaced g b level first ↔ IsPlaced h b level first
  pub needed : (b level j : ℕ) → Contains taken b → IsPlaced g b level (j * span h.size level) → is_needed h at (at + length new) level j ≡ true
  pub turn : StandIn (IsTakenBefore h) g taken
  pub headers : KeepsHeaders h g taken
  pub clear : height_in g ≢ 0 → (height_in h ≢ 0 → (dinode_in h).size < at + length new ⊎ IsClearFrom h (dinode_in h).size) → IsClearFrom g (size_with h (at + length new))
  pub behind : height_in g ≡ 0 → drop (dinode_length + size_with h (at + length new)) (bytes_at g h.own) ≡ drop (dinode_length + size_with h (at + length new)) (bytes_at h h.own)

-- A block to which a write of bytes up to an end does something: the dinode's; one that is taken, one with a pointer to such a one, and
-- content with bytes of the write; and where the end moves on, the last block of content, if something but zeros stood behind the old end.
abbrev pub IsWrittenAt : Holding → Holding → ℕ → ℕ → List ℕ → ℕ → Type 0
IsWrittenAt h g at end taken b = (b ≡ h.own) ⊎ IsFilledAt g at end taken b ⊎ (((dinode_in h).size < end) × IsUnclear h (dinode_in h).size b)

-- Over a draft that showed the file: afterwards it shows it so, with the blocks from the front of the room, as many as are needed. Nothing
-- becomes of any block to which the write does nothing.
pub record HasWritten (after : Seen) (old new : FinMap nat_cmp Fate) (room left : List ℕ) (h : Holding) (at : ℕ) (bytes : List ℕ) : Type 0 where
  pub g : Holding
  pub taken : List ℕ
  pub shown : IsShown after h.own g
  pub written : IsWritten h g at bytes taken
  pub as_many : length taken ≡ needed h at (length bytes)
  pub from_front : room ≡ taken ++ left
  pub drafted : DraftsFile old new h g []
  pub changes : ChangesOnly old new (IsWrittenAt h g at (at + length bytes) taken)
