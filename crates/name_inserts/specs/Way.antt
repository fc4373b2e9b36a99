-- The blocks on the way to a name in a directory, and which of them are right.
use Rattle.std.specs.Prelude.{ℕ, ◌≡◌, ◌≢◌, ◌*◌, ◌/◌, ◌<◌, ◌≤◌, true, List, length, drop, Contains}
use Rattle.gfs2_layout.specs.Area.{IsArea}
use Rattle.gfs2_layout.specs.Bytes.{u32_at}
use Rattle.gfs2_layout.specs.Headers.{HasHeader}
use Rattle.gfs2_layout.specs.Holding.{Holding, bytes_at}
use Rattle.gfs2_layout.specs.Inode.{depth_in, dinode_in, entry_block, is_hashed_in, leaf_in, leaf_length, table_count}
use Rattle.gfs2_layout.specs.Records.{records_in}
use Rattle.gfs2_layout.specs.Structures.{leaf_of}
use Rattle.glock_names.specs.Views.{Seen, HasBlock}
use Rattle.dinode_tree.specs.Below.{IsBelow}
use Rattle.dinode_tree.specs.Reading.{IsRightDinode}
use Rattle.resource_groups.specs.Putting.{HasDataBlock}
use Rattle.hash_inserts.specs.Shown.{IsInChain, index_for}

-- A block on the way to a name: the dinode's; of a hashed directory that of the table with the pointer to the name's chain, and each leaf of this.
pub data IsOnWay (h : Holding) (name : List ℕ) (b : ℕ) : Type 0 where
  its_dinode : b ≡ h.own → IsOnWay h name b
  its_pointer : is_hashed_in h ≡ true → IsBelow h b → b ≡ entry_block h (index_for h name) → IsOnWay h name b
  its_leaf : (place : ℕ) → is_hashed_in h ≡ true → IsInChain h (index_for h name) place b → IsOnWay h name b

-- ---- leaves

-- The bytes of a leaf: its header, the format of its records, which fill it, and as many of them in use as its head says.
pub record AreOfLeaf (bytes : List ℕ) : Type 0 where
  pub header : HasHeader 6 600 bytes
  pub format : u32_at 28 bytes ≡ 1200
  pub filled : IsArea (drop leaf_length bytes)
  pub entries : (leaf_of bytes).entries ≡ length (records_in (drop leaf_length bytes))

-- the rule that bytes break that aren't so
pub data BreaksLeaf (bytes : List ℕ) : ℕ → Type 0 where
  no_header : ¬ (HasHeader 6 600 bytes) → BreaksLeaf bytes 1
  other_format : u32_at 28 bytes ≢ 1200 → BreaksLeaf bytes 14
  unfilled : ¬ (IsArea (drop leaf_length bytes)) → BreaksLeaf bytes 9
  other_count : (leaf_of bytes).entries ≢ length (records_in (drop leaf_length bytes)) → BreaksLeaf bytes 14

-- A leaf that is right by itself: a data block of a group, which the view has, with the bytes of a leaf that isn't deeper than the table.
pub record IsRightLeaf (v : Seen) (h : Holding) (x : ℕ) : Type 0 where
  pub inside : HasDataBlock v x
  pub there : HasBlock v x
  pub bytes : AreOfLeaf (bytes_at h x)
  pub depth : (leaf_in h x).depth ≤ depth_in h

-- ---- the way

-- The table of a hashed directory has a pointer for the name; it is as deep as a table at least, and the size is that of its pointers.
pub record IsRightTable (h : Holding) (name : List ℕ) : Type 0 where
  pub low : index_for h name < table_count h
  pub least : h.size / 16 ≤ table_count h
  pub size : (dinode_in h).size ≡ 8 * table_count h

-- The way to a name is right, and no block on it is one of these.
pub record IsRightWay (v : Seen) (h : Holding) (name blocks : List ℕ) : Type 0 where
  pub dinode : IsRightDinode h
  pub table : is_hashed_in h ≡ true → IsRightTable h name
  pub leaves : is_hashed_in h ≡ true → (place x : ℕ) → IsInChain h (index_for h name) place x → IsRightLeaf v h x
  pub apart : (b : ℕ) → Contains blocks b → IsOnWay h name b → ⊥

-- so the way of a hashed directory behind its dinode
pub record IsRightBehind (v : Seen) (h : Holding) (name blocks : List ℕ) : Type 0 where
  pub table : IsRightTable h name
  pub pointer : Contains blocks (entry_block h (index_for h name)) → ⊥
  pub leaves : (place x : ℕ) → IsInChain h (index_for h name) place x → IsRightLeaf v h x × (Contains blocks x → ⊥)

-- ---- along a chain

-- each leaf of the chain of pointer i before this place is right, and none of these blocks
abbrev pub AreRightBefore : Seen → Holding → ℕ → List ℕ → ℕ → Type 0
AreRightBefore v h i blocks place = (earlier x : ℕ) → earlier < place → IsInChain h i earlier x → IsRightLeaf v h x × (Contains blocks x → ⊥)

-- so each leaf of it
abbrev pub AreRightAlong : Seen → Holding → ℕ → List ℕ → Type 0
AreRightAlong v h i blocks = (place x : ℕ) → IsInChain h i place x → IsRightLeaf v h x × (Contains blocks x → ⊥)
