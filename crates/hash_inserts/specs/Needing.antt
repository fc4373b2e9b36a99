-- How many blocks a name takes that comes into a hashed directory.
use Rattle.std.specs.Prelude.{ℕ, ◌≡◌, ◌≢◌, ◌⊎◌, ◌+◌, ◌-◌, ◌*◌, ◌^◌, ◌<◌, ◌≤◌, ◌==◌, true, false, if◌then◌else◌, List, [], ◌∷◌, length}
use Rattle.std.specs.List.{list_any}
use Rattle.crc_words.specs.Remainder.{crc32_of}
use Rattle.gfs2_layout.specs.Area.{Slot, slots_of}
use Rattle.gfs2_layout.specs.Holding.{Holding}
use Rattle.gfs2_layout.specs.Inode.{dinode_in, depth_in, entry, entry_block, leaf_area, leaf_in, leaf_length, linear_area}
use Rattle.glock_names.specs.Views.{Seen, HasBlock}
use Rattle.leaf_areas.specs.Moving.{in_use, packed}
use Rattle.leaf_areas.specs.Splitting.{bit_at, lower_half, upper_half}
use Rattle.table_changes.specs.Tables.{doubling_need, table_height}
use Rattle.hash_steps.specs.Shown.{IsInChain, index_for}
use Rattle.hash_steps.specs.Leaves.{has_room_for, leaf_depth}
use Rattle.hash_steps.specs.Steps.{first_count}
use Rattle.hash_inserts.specs.Drafting.{SeesTree}
use Rattle.hash_inserts.specs.Inserting.{HasNoRoom, HasOneLeafFor}

-- What an insertion looks at: the size of a block, the height of the dinode, the depth of the table, and the leaves of the name's chain with the depth that they have.
pub record Chain : Type 0 where
  pub size : ℕ
  pub height : ℕ
  pub table : ℕ
  pub depth : ℕ
  pub leaves : List (List Slot)

-- some leaf of it has room for a name of so many bytes
abbrev pub has_room_in : ℕ → Chain → Type 0
has_room_in len c = list_any (has_room_for len) c.leaves ≡ true

abbrev pub is_full : ℕ → Chain → Type 0
is_full len c = list_any (has_room_for len) c.leaves ≡ false

-- the table may be doubled: it isn't as deep as one may be
abbrev pub can_double : Chain → Type 0
can_double c = 2 * 2 ^ c.table ≤ 8 * c.size

-- after a split of its one leaf: the half to which a hash belongs
abbrev pub split_for : ℕ → List Slot → Chain → Chain
split_for hash slots c = record c {
  depth = c.depth + 1;
  leaves = (if bit_at c.depth hash == 0 then lower_half (c.size - leaf_length) c.depth slots else upper_half c.depth slots) ∷ [];
}

-- after the table is doubled
abbrev pub doubled : Chain → Chain
doubled c = record c { table = c.table + 1; height = table_height c.size c.height (2 * 2 ^ c.table) }

-- `Needs len hash c n`: a name of this length and hash takes so many blocks. Of three rules the first that fits is followed, until a leaf has room.
pub data Needs (len hash : ℕ) : Chain → ℕ → Type 0 where
  nothing : (c : Chain) → has_room_in len c → Needs len hash c 0
  -- its one leaf is less deep than the table: it is split
  a_split : (c : Chain) (slots : List Slot) (n : ℕ) → is_full len c → c.leaves ≡ slots ∷ [] → c.depth < c.table → Needs len hash (split_for hash slots c) n → Needs len hash c (n + 1)
  -- its one leaf is as deep as the table, which may be doubled: it is
  a_doubling : (c : Chain) (slots : List Slot) (n : ℕ) → is_full len c → c.leaves ≡ slots ∷ [] → c.table ≤ c.depth → can_double c
      → Needs len hash (doubled c) n → Needs len hash c (n + doubling_need c.size c.height (2 ^ c.table))
  -- in every other case a leaf is added behind the chain
  a_leaf : (c : Chain) → is_full len c → (2 ≤ length c.leaves) ⊎ (c.table ≤ c.depth × (can_double c → ⊥)) → Needs len hash c 1

-- ---- the chain of a name

-- the leaves of a chain from this one on, in order
pub data AreLeavesFrom (h : Holding) : ℕ → List (List Slot) → Type 0 where
  the_last : (x : ℕ) → (leaf_in h x).next ≡ 0 → AreLeavesFrom h x (slots_of (leaf_area h x) ∷ [])
  one_more : (x : ℕ) (later : List (List Slot)) → (leaf_in h x).next ≢ 0 → AreLeavesFrom h (leaf_in h x).next later → AreLeavesFrom h x (slots_of (leaf_area h x) ∷ later)

pub record IsChainOf (h : Holding) (name : List ℕ) (c : Chain) : Type 0 where
  pub size : c.size ≡ h.size
  pub height : c.height ≡ (dinode_in h).height
  pub table : c.table ≡ depth_in h
  pub depth : c.depth ≡ leaf_depth h (index_for h name)
  pub leaves : AreLeavesFrom h (entry h (index_for h name)) c.leaves

-- a name that isn't there takes so many blocks
pub record TakesBlocks (h : Holding) (name : List ℕ) (n : ℕ) : Type 0 where
  pub chain : Chain
  pub is : IsChainOf h name chain
  pub needs : Needs (length name) (crc32_of name) chain n

-- The view has what an insertion of the name looks at: the dinode, the block with its pointer, the leaves of its chain, and where the one leaf of that
-- has no room each block of the table.
pub record SeesToInsert (v : Seen) (h : Holding) (name : List ℕ) : Type 0 where
  pub own : HasBlock v h.own
  pub pointer : HasBlock v (entry_block h (index_for h name))
  pub leaves : (place x : ℕ) → IsInChain h (index_for h name) place x → HasBlock v x
  pub table : HasNoRoom h name → HasOneLeafFor h name → SeesTree v h

-- ---- a linear directory

-- the one chain that a linear directory has once it is a hashed one, with a table of this depth
pub record IsFirstChain (h : Holding) (c : Chain) : Type 0 where
  pub size : c.size ≡ h.size
  pub height : c.height ≡ 0
  pub table : 2 ^ c.table ≡ first_count h.size
  pub depth : c.depth ≡ 0
  pub leaves : c.leaves ≡ packed (h.size - leaf_length) (in_use (slots_of (linear_area h))) ∷ []

-- a name that a linear directory hasn't, and has no room for, takes so many blocks: a leaf, and what it then takes in the hashed one
pub record TakesBlocksFirst (h : Holding) (name : List ℕ) (n : ℕ) : Type 0 where
  pub chain : Chain
  pub is : IsFirstChain h chain
  pub more : ℕ
  pub needs : Needs (length name) (crc32_of name) chain more
  pub all : n ≡ more + 1
