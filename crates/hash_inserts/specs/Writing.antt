-- The bytes of blocks that an insertion writes: of leaves, and of the dinode.
use Rattle.std.specs.Prelude.{ℕ, ◌≡◌, ◌+◌, ◌-◌, ◌^◌, ◌<◌, ◌≤◌, ◌&&◌, not, true, List, length, take, drop, replicate, filter, Ok, Some}
use Rattle.gfs2_layout.specs.Area.{Slot, IsArea, slots_of}
use Rattle.gfs2_layout.specs.Inode.{leaf_length}
use Rattle.gfs2_layout.specs.Putting.{put_slot}
use Rattle.gfs2_layout.specs.Structures.{dinode_length, dinode_of, dinode_read, is_in_use, leaf_of, leaf_read}
use Rattle.gfs2_layout.specs.Writing.{dinode_put, leaf_put}
use Rattle.gfs2_layout.specs.declared.dinode.Dinode.{Dinode}
use Rattle.gfs2_layout.specs.declared.dirent.Dirent.{Dirent}
use Rattle.gfs2_layout.specs.declared.leaf.Leaf.{Leaf}
use Rattle.leaf_areas.specs.Splitting.{is_lower, lower_half, upper_half}
use Rattle.hash_steps.specs.Leaves.{has_room_for}

-- A leaf's block: this head, written over what the first of these bytes were, and behind it these records.
pub record IsLeafWritten (over new : List ℕ) (head : Leaf) (slots : List Slot) : Type 0 where
  pub front : take leaf_length new ≡ take leaf_length (leaf_put head over)
  pub read : leaf_read new ≡ Ok head
  pub records : slots_of (drop leaf_length new) ≡ slots
  pub filled : IsArea (drop leaf_length new)
  pub long : length new ≡ length over

-- a leaf's block, whose records fill it
pub record IsLeafBlock (bytes : List ℕ) : Type 0 where
  pub long : leaf_length ≤ length bytes
  pub short : length bytes ≤ 4096
  pub read : leaf_read bytes ≡ Ok (leaf_of bytes)
  pub area : IsArea (drop leaf_length bytes)

-- one that has room for a name of so many bytes, and counts fewer records than it can
pub record CanTake (bytes : List ℕ) (len : ℕ) : Type 0 where
  pub block : IsLeafBlock bytes
  pub room : has_room_for len (slots_of (drop leaf_length bytes)) ≡ true
  pub counts : (leaf_of bytes).entries + 1 < 2 ^ 16

-- the record is put into it, and counted
pub record IsLeafFilled (old new : List ℕ) (entry : Dirent) (name : List ℕ) : Type 0 where
  pub slots : List Slot
  pub put : put_slot entry name (slots_of (drop leaf_length old)) ≡ Some slots
  pub written : IsLeafWritten old new (record (leaf_of old) { entries = (leaf_of old).entries + 1 }) slots

-- a dinode's block that can count so many more records, links and blocks
pub record CanCount (bytes : List ℕ) (records links blocks : ℕ) : Type 0 where
  pub read : dinode_read bytes ≡ Ok (dinode_of bytes)
  pub records_fit : 1 ≤ records → (dinode_of bytes).entries + records < 2 ^ 32
  pub links_fit : 1 ≤ links → (dinode_of bytes).nlink + links < 2 ^ 32
  pub blocks_fit : 1 ≤ blocks → (dinode_of bytes).blocks + blocks < 2 ^ 64

-- the dinode counts so many more
abbrev pub counting : Dinode → ℕ → ℕ → ℕ → Dinode
counting d records links blocks = record d { entries = d.entries + records; nlink = d.nlink + links; blocks = d.blocks + blocks }

pub record IsDinodeWritten (old new : List ℕ) (d : Dinode) : Type 0 where
  pub is : new ≡ dinode_put d old
  pub read : dinode_read new ≡ Ok d
  pub behind : drop dinode_length new ≡ drop dinode_length old
  pub long : length new ≡ length old

-- a leaf's block that is split, by its depth: the two blocks afterwards, of which the new one is written over zeros
pub record IsHalved (old upper lower : List ℕ) (depth : ℕ) : Type 0 where
  pub low : IsLeafWritten (replicate (length old) 0) lower
      (record { depth = depth + 1; entries = length (filter (is_lower depth) (slots_of (drop leaf_length old))); next = 0 })
      (lower_half (length old - leaf_length) depth (slots_of (drop leaf_length old)))
  pub high : IsLeafWritten old upper
      (record { depth = depth + 1; entries = length (filter (λ s. is_in_use s.head && not (is_lower depth s)) (slots_of (drop leaf_length old))); next = 0 })
      (upper_half depth (slots_of (drop leaf_length old)))

-- a leaf's block that leads on to another leaf
pub record IsLinked (old new : List ℕ) (next : ℕ) : Type 0 where
  pub written : IsLeafWritten old new (record (leaf_of old) { next = next }) (slots_of (drop leaf_length old))
  pub area : drop leaf_length new ≡ drop leaf_length old
