-- What the code that goes along a chain holds, as what it stands for.
use Rattle.std.specs.Prelude.{ℕ, zero, suc, ◌≡◌, ◌≢◌, ◌+◌, ◌-◌, ◌*◌, ◌^◌, ◌<◌, ◌≤◌, ◌==◌, ◌&&◌, ◌||◌, Bool, false, nat_lt, List, ◌++◌, length, drop, filter, flat_map, Option, Some}
use Rattle.std.specs.List.{range_with_len}
use Rattle.std.specs.List.Sorted.{IsPermutation}
use Rattle.profile_limits.specs.Limits.{most_blocks}
use Rattle.gfs2_layout.specs.Area.{IsArea}
use Rattle.gfs2_layout.specs.Holding.{Holding, Part, InChain, part_at}
use Rattle.gfs2_layout.specs.Inode.{depth_in, entry, entry_block, leaf_area, leaf_in, leaf_length, table_count}
use Rattle.gfs2_layout.specs.Structures.{leaf_of}
use Rattle.gfs2_layout.specs.Records.{names_of, records_in}
use Rattle.glock_names.specs.Views.{Seen, HasBlock}
use Rattle.hash_dirs.specs.Finding.{IsNamedLater}
use Rattle.hash_dirs.specs.Shown.{IsInChain, IsShown, LeadsToLeaf}
use Rattle.hash_dirs.specs.declared.chains.LeafAt.{LeafAt}
use Rattle.pointer_tables.specs.declared.pointer.Pointer.{Pointer}

-- this is pointer i of the directory's table
pub record IsHead (h : Holding) (i : ℕ) (p : Pointer) : Type 0 where
  pub low : i < table_count h
  pub leaf : p.leaf ≡ entry h i
  pub from : p.from ≡ entry_block h i

-- this was read of the leaf in block x
pub record IsLeafOf (h : Holding) (x : ℕ) (leaf : LeafAt) : Type 0 where
  pub head : leaf.head ≡ leaf_in h x
  pub area : leaf.area.now ≡ leaf_area h x

-- this was read of the block as the view has it
pub record IsLeafIn (v : Seen) (x : ℕ) (leaf : LeafAt) : Type 0 where
  pub bytes : List ℕ
  pub there : v.block_at x ≡ Some bytes
  pub head : leaf.head ≡ leaf_of bytes
  pub area : leaf.area.now ≡ drop leaf_length bytes
  pub large : leaf_length ≤ length bytes

-- an area of a block
pub record IsAreaOfBlock (area : List ℕ) : Type 0 where
  pub filled : IsArea area
  pub short : length area ≤ 4096

-- the leaf is some block below this number
abbrev pub IsSmall : ℕ → Type 0
IsSmall x = (x ≢ 0) × (x < most_blocks)

-- the link leads on along a chain, and where it leads to a leaf, to that at this place
pub record IsLinkAt (h : Holding) (i place : ℕ) (p : Pointer) : Type 0 where
  pub leads : LeadsToLeaf h i p.from p.leaf
  pub chain : p.leaf ≢ 0 → IsInChain h i place p.leaf
  pub behind : place ≢ 0 → (before : ℕ) × ((before + 1 ≡ place) × IsInChain h i before p.from)
  pub low : (earlier x : ℕ) → earlier < place → IsInChain h i earlier x → IsSmall x

-- in each directory that the view shows, and of whose table the head is a pointer
abbrev pub OfEach : Seen → ℕ → Pointer → (Holding → ℕ → Type 0) → Type 0
OfEach v dir head P = (h : Holding) (i : ℕ) → IsShown v dir h → IsHead h i head → P h i

-- the link of a walk along the chain leads on to the leaf at this place
pub record IsAlong (v : Seen) (dir : ℕ) (head : Pointer) (place : ℕ) (link : Pointer) : Type 0 where
  pub from : HasBlock v link.from
  pub at : OfEach v dir head (λ h i. IsLinkAt h i place link)

-- so far no leaf of the chain has the name
abbrev pub IsNameless : Seen → ℕ → Pointer → List ℕ → ℕ → Type 0
IsNameless v dir head name place = OfEach v dir head (λ h i. IsNamedLater h i name place)

-- ---- names

-- the leaf at a place of the chain of pointer i
unfoldable pub leaf_on : Holding → ℕ → ℕ → ℕ
leaf_on h i zero = entry h i
leaf_on h i (suc place) = (leaf_in h (leaf_on h i place)).next

-- the names in a leaf
abbrev pub names_at : Holding → ℕ → List (List ℕ)
names_at h x = names_of (records_in (leaf_area h x))

-- the names in so many leaves of a chain
abbrev pub chain_names : Holding → ℕ → ℕ → List (List ℕ)
chain_names h i count = flat_map (λ k. names_at h (leaf_on h i k)) (range_with_len 0 count)

-- the names of the chain of pointer i were added, whose last leaf is so deep
pub record IsChainListed (h : Holding) (i : ℕ) (old new : List (List ℕ)) (depth : ℕ) : Type 0 where
  pub place : ℕ
  pub last : ℕ
  pub chain : IsInChain h i place last
  pub ends : (leaf_in h last).next ≡ 0
  pub depth_is : depth ≡ (leaf_in h last).depth
  pub names : new ≡ old ++ chain_names h i (place + 1)

-- Which leaves a walk over the table has passed, by their parts: those of chains for hashes below this one; and of the chain for this one
-- those before this place.
abbrev pub is_passed : ℕ → ℕ → Option Part → Bool
is_passed hash place (Some (InChain other at)) = nat_lt other hash || (other == hash && nat_lt at place)
is_passed hash place _ = false

-- the first hash of an index
abbrev pub hash_from : Holding → ℕ → ℕ
hash_from h i = i * 2 ^ (32 - depth_in h)

-- the names of the leaves that are passed
abbrev pub passed_names : Holding → ℕ → ℕ → List (List ℕ)
passed_names h hash place = flat_map (names_at h) (filter (λ x. is_passed hash place (part_at h x)) (range_with_len 0 h.count))

-- the names of the chains of the pointers before this one were listed, and none of these pointers leads where a later one does
pub record IsListed (h : Holding) (names : List (List ℕ)) (i : ℕ) : Type 0 where
  pub all : IsPermutation names (passed_names h (hash_from h i) 0)
  pub parted : (j k : ℕ) → j < i → i ≤ k → k < table_count h → entry h j ≢ entry h k
