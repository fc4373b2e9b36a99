-- What the blocks of a resource group say: those of its header and bitmap, in order.
use Rattle.std.specs.Prelude.{ℕ, ◌≡◌, ◌+◌, ◌<◌, ◌==◌, Bool, if◌then◌else◌, List, [], ◌∷◌, ◌++◌, drop, map, flat_map, count_by, slice_index_or}
use Rattle.std.specs.List.{range_with_len}
use Rattle.gfs2_layout.specs.Bitmap.{state_at, with_state}
use Rattle.gfs2_layout.specs.Headers.{HasHeader}
use Rattle.gfs2_layout.specs.Structures.{group_of}
use Rattle.gfs2_layout.specs.declared.group_header.GroupHeader.{GroupHeader}

-- the bits: behind the header in the first block, and behind its header of 24 bytes in each further one
abbrev pub bitmap_of : List (List ℕ) → List ℕ
bitmap_of [] = []
bitmap_of (header ∷ more) = drop 128 header ++ flat_map (λ bytes. drop 24 bytes) more

abbrev pub group_header : List (List ℕ) → GroupHeader
group_header blocks = group_of (slice_index_or blocks 0 [])

-- the states that the bits say, of each data block in order
abbrev pub states_in : List (List ℕ) → ℕ → List ℕ
states_in blocks count = map (state_at (bitmap_of blocks)) (range_with_len 0 count)

abbrev pub count_of : ℕ → List ℕ → ℕ
count_of state states = count_by (λ s. s == state) states

-- ---- a state that is put

abbrev pub one_if : Bool → ℕ
one_if b = if b then 1 else 0

-- what a header says but for its counts
abbrev pub uncounted : GroupHeader → GroupHeader
uncounted h = record h { free = 0; dinodes = 0 }

-- The state of data block i is put: the bitmap has it, the header's counts follow, and all else that the header says stays. Each block keeps its header.
pub record IsStatePut (old new : List (List ℕ)) (i state : ℕ) : Type 0 where
  pub header : HasHeader 2 200 (slice_index_or new 0 [])
  pub more : (k : ℕ) → 0 < k → HasHeader 3 300 (slice_index_or old k []) → HasHeader 3 300 (slice_index_or new k [])
  pub others : uncounted (group_header new) ≡ uncounted (group_header old)
  pub bits : bitmap_of new ≡ with_state (bitmap_of old) i state
  pub free : (group_header new).free + one_if (state_at (bitmap_of old) i == 0) ≡ (group_header old).free + one_if (state == 0)
  pub dinodes : (group_header new).dinodes + one_if (state_at (bitmap_of old) i == 3) ≡ (group_header old).dinodes + one_if (state == 3)
