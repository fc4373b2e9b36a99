-- What a draft makes of a file's blocks: which ones it takes or frees, and what it puts.
use Rattle.std.specs.Prelude.{ℕ, Bool, ◌≡◌, ◌⊎◌, ◌↔◌, ◌+◌, ◌*◌, ◌<◌, ◌≤◌, IsSome, true, ⊤, List, [], ◌∷◌, Contains, None, Some}
use Rattle.std.specs.FinMap.{FinMap, get}
use Rattle.std.specs.Ordering.{nat_cmp}
use Rattle.drafts.specs.declared.fate.Fate.{Fate}
use Rattle.drafts.specs.declared.fate.Fate.TheVariants.{Put, Freed}
use Rattle.gfs2_layout.specs.Holding.{Pointed, Holding, part_at, bytes_at}
use Rattle.gfs2_layout.specs.Inode.{dinode_in, span, content_block, content_count, block_count}
use Rattle.dinode_tree.specs.Reading.{inode_lock}
use Rattle.growth_laws.specs.Files.{IsFile}

-- a file whose dinode says how many blocks it has
pub record IsCounted (h : Holding) : Type 0 where
  pub file : IsFile h
  pub blocks : (dinode_in h).blocks ≡ block_count h

-- ---- which blocks of content are looked at

-- the block of content with this index has bytes from `at` up to `end`
pub record HasBytes (size at end i : ℕ) : Type 0 where
  pub some : at < end
  pub begins : i * size < end
  pub ends : at < (i + 1) * size

-- a write from `at` up to `end` looks at the block of content with this index: it has bytes of the write, or the last bytes before an end that moves on
abbrev pub IsLookedAt : Holding → ℕ → ℕ → ℕ → Type 0
IsLookedAt h at end i = HasBytes h.size at end i ⊎ ((dinode_in h).size < end × (i + 1 ≡ content_count h))

-- a cut looks at every block of content that ends past the new end
abbrev pub IsCutAt : Holding → ℕ → ℕ → Type 0
IsCutAt h size i = size < (i + 1) * h.size

-- below a place, on a level and from this index of content on, no content stands before the end, counted in blocks
abbrev pub IsIdle : Holding → ℕ → ℕ → ℕ → Type 0
IsIdle h end level first = (i : ℕ) → first ≤ i → i < first + span h.size level → i < end → content_block h i ≡ 0

-- ---- blocks that may be taken

-- none stands twice
abbrev pub IsDistinct : List ℕ → Type 0
IsDistinct [] = ⊤
IsDistinct (x ∷ xs) = (Contains xs x → ⊥) × IsDistinct xs

-- these blocks may be taken: none is 0, none stands twice, each is inside the image, and none is the file's
pub record AreFreeFor (h : Holding) (room : List ℕ) : Type 0 where
  pub some : Contains room 0 → ⊥
  pub once : IsDistinct room
  pub inside : (b : ℕ) → Contains room b → b < h.count
  pub new : (b : ℕ) → Contains room b → h.cell b ≡ None

-- ---- which blocks the file has afterwards, in the same image

-- it has these blocks more
pub record HasTaken (h g : Holding) (taken : List ℕ) : Type 0 where
  pub count : g.count ≡ h.count
  pub blocks : (b : ℕ) → IsSome (g.cell b) ↔ (IsSome (h.cell b) ⊎ Contains taken b)

-- it has these blocks fewer, each of which it had
pub record HasFreed (h g : Holding) (freed : List ℕ) : Type 0 where
  pub count : g.count ≡ h.count
  pub were : (b : ℕ) → Contains freed b → IsSome (h.cell b)
  pub kept : (b : ℕ) → IsSome (g.cell b) ↔ (IsSome (h.cell b) × (Contains freed b → ⊥))

-- ---- what becomes of them in the draft

-- the block is of the level of content
abbrev pub IsContentIn : Holding → ℕ → Type 0
IsContentIn g b = (above k first : ℕ) × (part_at g b ≡ Some (Pointed above k 0 first))

-- the draft leaves a block that the file had: its bytes are the same, and it is content where it was
pub record IsLeft (old new : FinMap nat_cmp Fate) (h g : Holding) (b : ℕ) : Type 0 where
  pub fate : get new b ≡ get old b
  pub had : IsSome (h.cell b)
  pub bytes : bytes_at g b ≡ bytes_at h b
  pub content : IsContentIn g b ↔ IsContentIn h b

-- the draft puts a block of the file as the file has it: under the file's lock, plain exactly where it is content
pub record IsPutFor (new : FinMap nat_cmp Fate) (g : Holding) (b : ℕ) : Type 0 where
  pub plain : Bool
  pub fate : get new b ≡ Some (Put (inode_lock g.own) plain (bytes_at g b))
  pub content : (plain ≡ true) ↔ IsContentIn g b

-- From one file to another the draft puts or leaves each block that the file has then, frees these, and does nothing to any other block.
pub record DraftsFile (old new : FinMap nat_cmp Fate) (h g : Holding) (freed : List ℕ) : Type 0 where
  pub own : (b : ℕ) → IsSome (g.cell b) → IsLeft old new h g b ⊎ IsPutFor new g b
  pub frees : (b : ℕ) → Contains freed b → get new b ≡ Some Freed
  pub others : (b : ℕ) → (IsSome (g.cell b) → ⊥) → (Contains freed b → ⊥) → get new b ≡ get old b
