-- The places of journals, as they are marked one by one.
use Rattle.std.specs.Prelude.{ℕ, zero, suc, ⊤, ◌≡◌, ◌≢◌, ◌+◌, ◌-◌, ◌/◌, ◌%◌, ◌<◌, ◌==◌, Bool, true, false, List, Option, None, Some, count_by, slice_get}
use Rattle.gfs2_layout.specs.Holding.{Holding}
use Rattle.gfs2_layout.specs.Inode.{Leads, content_count, header_length, height_in, pointer, span}
use Rattle.gfs2_layout.specs.Structures.{dinode_length}
use Rattle.image_mount.specs.Kept.{Kept, seen_of}

abbrev pub one_if : Option Bool → ℕ
one_if (Some true) = 1
one_if (Some false) = 0
one_if None = 0

-- how often a block is marked: once or never
abbrev pub marks_of : Kept → ℕ → ℕ
marks_of k b = one_if (slice_get k.places b)

-- the block was read, whether it is kept or not, or is a place of a journal
pub data IsTaken (k : Kept) (b : ℕ) : Type 0 where
  of_place : slice_get k.places b ≡ Some true → IsTaken k b
  of_leaf : slice_get k.leaves b ≡ Some true → IsTaken k b
  of_kept : (bytes : List ℕ) → (seen_of k).block_at b ≡ Some bytes → IsTaken k b

-- the block was read and is kept
abbrev pub IsKept : Kept → ℕ → Type 0
IsKept k b = (seen_of k).block_at b ≢ None

-- each indirect block from block b down, so many levels, to the block of content with index i below it is kept
abbrev pub IsKeptDown : Kept → Holding → ℕ → ℕ → ℕ → Type 0
IsKeptDown k h zero b i = ⊤
IsKeptDown k h (suc level) b i = IsKept k b × IsKeptDown k h level (pointer h header_length b (i / span h.size level)) (i % span h.size level)

-- so is each on the way from the dinode to the block of content with index i
abbrev pub IsKeptWay : Kept → Holding → ℕ → Type 0
IsKeptWay k h i =
    let level = height_in h - 1 in
    IsKeptDown k h level (pointer h dinode_length h.own (i / span h.size level)) (i % span h.size level)

-- each block below the dinode to which a pointer leads before the file's end is kept
abbrev pub HasKeptContent : Kept → Holding → Type 0
HasKeptContent k h = (p j level first b : ℕ) → Leads h p j level first b → first < content_count h → IsKept k b

-- no block that is a place was read, whether it is kept or not
abbrev pub AreUnread : Kept → Type 0
AreUnread k = (b : ℕ) → marks_of k b ≡ 1 → ((seen_of k).block_at b ≡ None) × (slice_get k.leaves b ≢ Some true)

-- more may be read and marked: what was kept or read stays so, and where no place was read none is
pub record IsGrown (old new : Kept) : Type 0 where
  pub stays : (b : ℕ) → IsKept old b → IsKept new b
  pub leaves : (b : ℕ) → slice_get old.leaves b ≡ Some true → slice_get new.leaves b ≡ Some true
  pub taken : (b : ℕ) → IsTaken old b → IsTaken new b
  pub unread : AreUnread old → AreUnread new

-- how often a block is among these
abbrev pub times_in : List ℕ → ℕ → ℕ
times_in blocks b = count_by (λ c. c == b) blocks

-- these blocks were marked: each is there once, and none was marked before
abbrev pub AreMarked : Kept → Kept → List ℕ → Type 0
AreMarked before after blocks = (b : ℕ) → marks_of after b ≡ marks_of before b + times_in blocks b
