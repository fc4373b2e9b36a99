-- What becomes of a hashed directory, step by step: a leaf is split, a leaf is added behind a chain, a record is put into a leaf; and a linear directory
-- becomes a hashed one.
use Rattle.std.specs.Prelude.{ℕ, ◌≡◌, ◌≢◌, ◌+◌, ◌-◌, ◌*◌, ◌/◌, ◌<◌, ◌≤◌, true, if◌then◌else◌, List, [], ◌∷◌, length, drop, replicate, filter, not, ◌&&◌, Some, None}
use Rattle.std.specs.List.{All}
use Rattle.gfs2_layout.specs.Area.{Slot, slots_of}
use Rattle.gfs2_layout.specs.Bytes.{slice}
use Rattle.gfs2_layout.specs.Exchanges.{IsCounted}
use Rattle.gfs2_layout.specs.Holding.{Holding, InChain, bytes_at, part_at}
use Rattle.gfs2_layout.specs.Inode.{dinode_in, entry, first_hash, is_hashed_in, leaf_area, leaf_in, leaf_length, linear_area, table_count}
use Rattle.gfs2_layout.specs.Putting.{put_slot}
use Rattle.gfs2_layout.specs.Structures.{dinode_length, is_in_use}
use Rattle.glock_names.specs.declared.steps.Entry.{Entry}
use Rattle.dinode_tree.specs.Pads.{KeepsPads}
use Rattle.linear_dirs.specs.Exchanges.{uncounted}
use Rattle.linear_dirs.specs.Shown.{head_for, record_for}
use Rattle.leaf_areas.specs.Moving.{in_use, packed, unused}
use Rattle.leaf_areas.specs.Splitting.{is_lower, lower_half, upper_half}
use Rattle.pointer_tables.specs.Directories.{IsPlaced, IsTreeSound}
use Rattle.pointer_tables.specs.Tables.{is_within}
use Rattle.hash_dirs.specs.Shown.{IsInChain, index_for}
use Rattle.hash_steps.specs.Leaves.{IsBesideHalf, IsLeafPut, IsFullBefore, blank, first_of, leaf_depth, middle_hash, run_of}

-- It is an inode in the same image with its dinode in the same block, sound but for its leaves, and each of its blocks is one of the image.
pub record IsSame (h g : Holding) : Type 0 where
  pub size : g.size ≡ h.size
  pub count : g.count ≡ h.count
  pub own : g.own ≡ h.own
  pub tree : IsTreeSound g
  pub placed : IsPlaced g

-- its dinode counts a block more, and says else what it said, with the pads of the old one
pub record CountsOneMore (h g : Holding) : Type 0 where
  pub dinode : dinode_in g ≡ record (dinode_in h) { blocks = (dinode_in h).blocks + 1 }
  pub pads : KeepsPads (bytes_at h h.own) (bytes_at g g.own)

-- ---- a leaf is split

-- Block b is a new leaf. It takes the lower half of the pointers that lead to the leaf of pointer i, and of that leaf's records; the old leaf keeps
-- the rest. Of each other block all bytes stay but these pointers; of the dinode's, all behind the dinode but these.
pub record IsSplit (h g : Holding) (i b : ℕ) : Type 0 where
  pub same : IsSame h g
  pub counts : CountsOneMore h g
  pub new : h.cell b ≡ None
  pub new_part : part_at g b ≡ Some (InChain (first_hash h i) 0)
  pub old_part : part_at g (entry h i) ≡ Some (InChain (middle_hash h i) 0)
  pub parts : (x : ℕ) → x ≢ b → x ≢ entry h i → part_at g x ≡ part_at h x
  pub new_leaf : IsLeafPut g b (blank h) (record { depth = leaf_depth h i + 1; entries = length (filter (is_lower (leaf_depth h i)) (slots_of (leaf_area h (entry h i)))); next = 0 })
      (lower_half (h.size - leaf_length) (leaf_depth h i) (slots_of (leaf_area h (entry h i))))
  pub old_leaf : IsLeafPut g (entry h i) (bytes_at h (entry h i)) (record { depth = leaf_depth h i + 1; entries = length (filter (λ s. is_in_use s.head && not (is_lower (leaf_depth h i) s)) (slots_of (leaf_area h (entry h i)))); next = 0 })
      (upper_half (leaf_depth h i) (slots_of (leaf_area h (entry h i))))
  pub entries : (j : ℕ) → j < table_count h → entry g j ≡ (if is_within (first_of h i) (run_of h (leaf_depth h i + 1)) j then b else entry h j)
  pub others : (x at n : ℕ) → x ≢ b → x ≢ entry h i → (x ≡ h.own → dinode_length ≤ at) → IsBesideHalf h i x at n → slice at n (bytes_at g x) ≡ slice at n (bytes_at h x)

-- ---- a leaf is added

-- Block b is a leaf without records behind the last one of pointer i's chain, as deep as that.
pub record IsLengthened (h g : Holding) (i b : ℕ) : Type 0 where
  pub same : IsSame h g
  pub counts : CountsOneMore h g
  pub behind : drop dinode_length (bytes_at g h.own) ≡ drop dinode_length (bytes_at h h.own)
  pub last : ℕ
  pub at_place : ℕ
  pub chain : IsInChain h i at_place last
  pub ends : (leaf_in h last).next ≡ 0
  pub new : h.cell b ≡ None
  pub new_part : (hash place : ℕ) → part_at h last ≡ Some (InChain hash place) → part_at g b ≡ Some (InChain hash (place + 1))
  pub parts : (x : ℕ) → x ≢ b → part_at g x ≡ part_at h x
  pub new_leaf : IsLeafPut g b (blank h) (record { depth = (leaf_in h last).depth; entries = 0; next = 0 }) (unused (h.size - leaf_length) ∷ [])
  pub linked : IsLeafPut g last (bytes_at h last) (record (leaf_in h last) { next = b }) (slots_of (leaf_area h last))
  pub area : leaf_area g last ≡ leaf_area h last
  pub others : (x : ℕ) → x ≢ h.own → x ≢ b → x ≢ last → bytes_at g x ≡ bytes_at h x

-- ---- a record is put into a leaf

-- The record of a name that leads there is put into the first leaf of its chain that has room for it, into its first record that has; the leaf and
-- the dinode count it. No other block changes.
pub record IsPutInLeaf (h g : Holding) (name : List ℕ) (e : Entry) : Type 0 where
  pub same : IsSame h g
  pub leaf : ℕ
  pub at_place : ℕ
  pub chain : IsInChain h (index_for h name) at_place leaf
  pub full_before : IsFullBefore h (index_for h name) (length name) at_place
  pub slots : List Slot
  pub put : put_slot (head_for name e) name (slots_of (leaf_area h leaf)) ≡ Some slots
  pub is : IsLeafPut g leaf (bytes_at h leaf) (record (leaf_in h leaf) { entries = (leaf_in h leaf).entries + 1 }) slots
  pub dinode : uncounted (dinode_in g) ≡ uncounted (dinode_in h)
  pub counted : IsCounted (dinode_in h) (dinode_in g) [] (record_for name e ∷ [])
  pub pads : KeepsPads (bytes_at h h.own) (bytes_at g g.own)
  pub behind : drop dinode_length (bytes_at g h.own) ≡ drop dinode_length (bytes_at h h.own)
  pub parts : (x : ℕ) → part_at g x ≡ part_at h x
  pub others : (x : ℕ) → x ≢ h.own → x ≢ leaf → bytes_at g x ≡ bytes_at h x

-- ---- a linear directory becomes a hashed one

-- so many pointers has the first table of a directory: half a block of them
abbrev pub first_count : ℕ → ℕ
first_count size = size / 16

-- Block b is a leaf of depth 0 with all records of the linear directory, in order; the table of the first size, behind the dinode, leads to it, and the
-- rest of the dinode's block is zeros. What the leaf has are bytes: so the hash of each name in it has 32 bits, and belongs to the one leaf that there is.
pub record IsConverted (h g : Holding) (b : ℕ) : Type 0 where
  pub same : IsSame h g
  pub new : h.cell b ≡ None
  pub new_part : part_at g b ≡ Some (InChain 0 0)
  pub parts : (x : ℕ) → x ≢ b → part_at g x ≡ part_at h x
  pub leaf : IsLeafPut g b (blank h) (record { depth = 0; entries = length (in_use (slots_of (linear_area h))); next = 0 }) (packed (h.size - leaf_length) (in_use (slots_of (linear_area h))))
  pub bytes : All (λ byte. byte < 256) (bytes_at g b)
  pub hashed : is_hashed_in g ≡ true
  pub count : table_count g ≡ first_count h.size
  pub entries : (i : ℕ) → i < table_count g → entry g i ≡ b
  pub dinode : dinode_in g ≡ record (dinode_in h) {
    flags = (dinode_in h).flags + 2;
    depth = (dinode_in g).depth;
    size = 8 * first_count h.size;
    blocks = (dinode_in h).blocks + 1;
  }
  pub pads : KeepsPads (bytes_at h h.own) (bytes_at g g.own)
  pub clear : drop (dinode_length + 8 * first_count h.size) (bytes_at g h.own) ≡ replicate (h.size - (dinode_length + 8 * first_count h.size)) 0
