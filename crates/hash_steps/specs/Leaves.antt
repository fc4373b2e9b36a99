-- A leaf as it is put, and what a step leaves of a hashed directory's other blocks.
use Rattle.std.specs.Prelude.{ℕ, ◌≡◌, ◌⊎◌, ◌+◌, ◌-◌, ◌*◌, ◌/◌, ◌%◌, ◌^◌, ◌<◌, ◌≤◌, ◌==◌, Bool, true, false, if◌then◌else◌, List, take, replicate}
use Rattle.std.specs.List.{list_any}
use Rattle.gfs2_layout.specs.Area.{Slot, IsArea, slots_of}
use Rattle.gfs2_layout.specs.Bytes.{u32_at}
use Rattle.gfs2_layout.specs.Headers.{HasHeader}
use Rattle.gfs2_layout.specs.Holding.{Holding, bytes_at}
use Rattle.gfs2_layout.specs.Inode.{depth_in, entry, entry_block, first_hash, header_length, height_in, leaf_area, leaf_in, leaf_length, unit}
use Rattle.gfs2_layout.specs.Putting.{has_room, least_length}
use Rattle.gfs2_layout.specs.Structures.{dinode_length}
use Rattle.gfs2_layout.specs.Writing.{leaf_put}
use Rattle.gfs2_layout.specs.declared.leaf.Leaf.{Leaf}
use Rattle.pointer_tables.specs.Tables.{is_within}
use Rattle.hash_dirs.specs.Shown.{IsInChain}

-- ---- leaves

-- A leaf's block: this head, written over what the first of these bytes were, and behind it these records.
pub record IsLeafPut (g : Holding) (x : ℕ) (over : List ℕ) (head : Leaf) (slots : List Slot) : Type 0 where
  pub front : take leaf_length (bytes_at g x) ≡ take leaf_length (leaf_put head over)
  pub header : HasHeader 6 600 (bytes_at g x)
  pub records_format : u32_at 28 (bytes_at g x) ≡ 1200
  pub head_is : leaf_in g x ≡ head
  pub slots_are : slots_of (leaf_area g x) ≡ slots
  pub filled : IsArea (leaf_area g x)

-- a block of zeros, over which a new leaf is written
abbrev pub blank : Holding → List ℕ
blank h = replicate h.size 0

-- some records have room for one more with a name of so many bytes
abbrev pub has_room_for : ℕ → List Slot → Bool
has_room_for len slots = list_any (has_room (least_length len)) slots

-- ---- the hashes of a leaf

-- the depth of the leaf to which pointer i leads
abbrev pub leaf_depth : Holding → ℕ → ℕ
leaf_depth h i = (leaf_in h (entry h i)).depth

-- how many neighbouring pointers lead to a leaf of this depth
abbrev pub run_of : Holding → ℕ → ℕ
run_of h depth = 2 ^ (depth_in h - depth)

-- the first of the pointers that lead where pointer i leads
abbrev pub first_of : Holding → ℕ → ℕ
first_of h i = i / run_of h (leaf_depth h i) * run_of h (leaf_depth h i)

-- from which byte of its block on a pointer stands: behind the dinode, or behind a table block's header
abbrev pub entry_place : Holding → ℕ → ℕ
entry_place h j = if height_in h == 0 then dinode_length + 8 * j else header_length + 8 * j % unit h

-- of the pointers that lead where pointer i leads, none of the lower half stands in the n bytes of the block from this one on
abbrev pub IsBesideHalf : Holding → ℕ → ℕ → ℕ → ℕ → Type 0
IsBesideHalf h i x at n = (j : ℕ) → is_within (first_of h i) (run_of h (leaf_depth h i + 1)) j ≡ true → x ≡ entry_block h j → (at + n ≤ entry_place h j) ⊎ (entry_place h j + 8 ≤ at)

-- the first hash of the upper half of the leaf to which pointer i leads
abbrev pub middle_hash : Holding → ℕ → ℕ
middle_hash h i = first_hash h i + 2 ^ (31 - leaf_depth h i)

-- ---- chains

-- no leaf of the chain of pointer i has room for a name of so many bytes
abbrev pub IsFull : Holding → ℕ → ℕ → Type 0
IsFull h i len = (place x : ℕ) → IsInChain h i place x → has_room_for len (slots_of (leaf_area h x)) ≡ false

-- none before the leaf at this place has
abbrev pub IsFullBefore : Holding → ℕ → ℕ → ℕ → Type 0
IsFullBefore h i len place = (earlier x : ℕ) → earlier < place → IsInChain h i earlier x → has_room_for len (slots_of (leaf_area h x)) ≡ false

-- the chain of pointer i has one leaf
abbrev pub HasOneLeaf : Holding → ℕ → Type 0
HasOneLeaf h i = (leaf_in h (entry h i)).next ≡ 0
