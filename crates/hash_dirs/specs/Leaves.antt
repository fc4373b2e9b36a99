-- The leaves of a hashed directory, whether it is sound or not, and the records in them.
use Rattle.std.specs.Prelude.{ℕ, ◌≡◌, ◌≢◌, ◌⊎◌, ◌↔◌, ◌<◌, ◌≤◌, true, List, Contains, Some, flat_map, length, drop}
use Rattle.growth_drafts.specs.Taken.{IsDistinct}
use Rattle.gfs2_layout.specs.Holding.{Holding}
use Rattle.gfs2_layout.specs.Inode.{entry, is_hashed_in, leaf_area, leaf_in, leaf_length, records_of, table_count}
use Rattle.gfs2_layout.specs.Records.{Record, records_in}
use Rattle.std.specs.List.Sorted.{IsPermutation}
use Rattle.glock_names.specs.Views.{Seen}
use Rattle.resource_groups.specs.Putting.{HasDataBlock}
use Rattle.pointer_tables.specs.Directories.{IsInChain}
use Rattle.hash_dirs.specs.Finding.{IsEnded}
use Rattle.hash_dirs.specs.Shown.{IsSound}
use Rattle.pointer_tables.specs.declared.pointer.Pointer.{Pointer}
use Rattle.hash_dirs.specs.Walking.{IsAlong, IsAreaOfBlock, IsSmall, OfEach}

-- the block is a leaf of the chain of some pointer
abbrev pub IsLeaf : Holding → ℕ → Type 0
IsLeaf h x = (i place : ℕ) × IsInChain h i place x

-- these are the leaves of the directory's chains, each once; and each chain ends
pub record AreLeaves (h : Holding) (leaves : List ℕ) : Type 0 where
  pub each : (x : ℕ) → Contains leaves x ↔ IsLeaf h x
  pub once : IsDistinct leaves
  pub ends : (i : ℕ) → i < table_count h → IsEnded h i

-- the records in these leaves, one after another
abbrev pub records_among : Holding → List ℕ → List Record
records_among h leaves = flat_map (λ x. records_in (leaf_area h x)) leaves

-- ---- what is held of a leaf that was read

-- it is a data block of a group which the view has, and records fill it
pub record IsRead (v : Seen) (x : ℕ) : Type 0 where
  pub small : IsSmall x
  pub inside : HasDataBlock v x
  pub bytes : List ℕ
  pub there : v.block_at x ≡ Some bytes
  pub large : leaf_length ≤ length bytes
  pub area : IsAreaOfBlock (drop leaf_length bytes)

-- ---- what the walk along one chain gives, where the leaves of chains before are known

-- These are the leaves of the chain of pointer i up to the first that is known, if any is. Each is a leaf of the chain, and behind each comes one of these
-- or a known one. The chain ends, or comes to a known leaf.
pub record AreNewIn (h : Holding) (i : ℕ) (known chain : List ℕ) : Type 0 where
  pub each : (x : ℕ) → Contains chain x → (place : ℕ) × IsInChain h i place x
  pub head : Contains chain (entry h i) ⊎ Contains known (entry h i)
  pub next : (x : ℕ) → Contains chain x → (leaf_in h x).next ≢ 0 → Contains chain (leaf_in h x).next ⊎ Contains known (leaf_in h x).next
  pub ends : IsEnded h i ⊎ ((place x : ℕ) × Contains known x × (x ≢ 0 → IsInChain h i place x))

-- none of these is known, and none stands twice
pub record AreNew (known chain : List ℕ) : Type 0 where
  pub apart : (x : ℕ) → Contains chain x → Contains known x → ⊥
  pub once : IsDistinct chain

-- So far a walk along a chain found these leaves, none of them known, and its link leads on to the leaf at this place.
pub record IsGathered (v : Seen) (dir : ℕ) (head : Pointer) (known : List ℕ) (place : ℕ) (link : Pointer) (chain : List ℕ) : Type 0 where
  pub along : IsAlong v dir head place link
  pub each : OfEach v dir head (λ h i. (x : ℕ) → Contains chain x → (k : ℕ) × (k < place) × IsInChain h i k x)
  pub head_is : OfEach v dir head (λ h i. Contains chain (entry h i) ⊎ (entry h i ≡ link.leaf))
  pub next : OfEach v dir head (λ h i. (x : ℕ) → Contains chain x → (leaf_in h x).next ≢ 0 → Contains chain (leaf_in h x).next ⊎ ((leaf_in h x).next ≡ link.leaf))
  pub new : AreNew known chain
  pub read : (x : ℕ) → Contains chain x → IsRead v x

-- These are the leaves of the chains of the pointers before this one, each of which ends.
pub record AreLeavesBefore (h : Holding) (i : ℕ) (leaves : List ℕ) : Type 0 where
  pub each : (x : ℕ) → Contains leaves x → (j place : ℕ) × (j < i) × IsInChain h j place x
  pub heads : (j : ℕ) → Contains leaves (entry h j) ⊎ (i ≤ j)
  pub next : (x : ℕ) → Contains leaves x → (leaf_in h x).next ≢ 0 → Contains leaves (leaf_in h x).next
  pub ends : (j : ℕ) → j < i → IsEnded h j

-- ---- laws

-- in a sound directory the records in all leaves are the directory's
abbrev pub LeavesHaveRecords : Type 0
LeavesHaveRecords = (h : Holding) (leaves : List ℕ) → IsSound h → is_hashed_in h ≡ true → AreLeaves h leaves → IsPermutation (records_among h leaves) (records_of h)
