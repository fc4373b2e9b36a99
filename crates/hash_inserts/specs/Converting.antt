-- The bytes of the two blocks that a linear directory has once it is a hashed one.
use Rattle.std.specs.Prelude.{ℕ, ◌≡◌, ◌+◌, ◌-◌, ◌*◌, ◌^◌, ◌<◌, false, List, length, drop, replicate, Ok}
use Rattle.std.specs.List.{All}
use Rattle.gfs2_layout.specs.Area.{IsArea, slots_of}
use Rattle.gfs2_layout.specs.Bytes.{u64_at}
use Rattle.gfs2_layout.specs.Device.{IsBlockSize}
use Rattle.gfs2_layout.specs.Inode.{has_hash_flag, leaf_length}
use Rattle.gfs2_layout.specs.Structures.{dinode_length, dinode_of, dinode_read}
use Rattle.gfs2_layout.specs.declared.dinode.Dinode.{Dinode}
use Rattle.dinode_tree.specs.Pads.{KeepsPads}
use Rattle.leaf_areas.specs.Moving.{in_use, packed}
use Rattle.hash_steps.specs.Steps.{first_count}
use Rattle.hash_inserts.specs.Writing.{IsLeafWritten}

-- the block of a linear directory's dinode, which can count a block more
pub record CanConvert (bytes : List ℕ) : Type 0 where
  pub size : IsBlockSize (length bytes)
  pub read : dinode_read bytes ≡ Ok (dinode_of bytes)
  pub linear : has_hash_flag (dinode_of bytes) ≡ false
  pub area : IsArea (drop dinode_length bytes)
  pub blocks : (dinode_of bytes).blocks + 1 < 2 ^ 64

-- what its dinode says afterwards, with a first table of this depth
abbrev pub hashed_dinode : Dinode → ℕ → ℕ → Dinode
hashed_dinode d size depth = record d { flags = d.flags + 2; depth = depth; size = 8 * first_count size; blocks = d.blocks + 1 }

-- This dinode is written over the old one, and behind it stand the first table, whose pointers all lead to this leaf, and zeros.
pub record IsTableWritten (old new : List ℕ) (d : Dinode) (leaf : ℕ) : Type 0 where
  pub pads : KeepsPads old new
  pub read : dinode_read new ≡ Ok d
  pub pointers : (i : ℕ) → i < first_count (length old) → u64_at (dinode_length + 8 * i) new ≡ leaf
  pub clear : drop (dinode_length + 8 * first_count (length old)) new ≡ replicate (length old - (dinode_length + 8 * first_count (length old))) 0
  pub long : length new ≡ length old

-- a leaf of depth 0 with the records of an area, in order, written over these bytes
abbrev pub IsFirstLeaf : List ℕ → List ℕ → List ℕ → Type 0
IsFirstLeaf area over new = IsLeafWritten over new (record { depth = 0; entries = length (in_use (slots_of area)); next = 0 }) (packed (length over - leaf_length) (in_use (slots_of area)))

-- the block of the dinode afterwards, and that of the leaf
pub record AreConverted (old table new : List ℕ) (leaf : ℕ) : Type 0 where
  pub depth : ℕ
  pub deep : 2 ^ depth ≡ first_count (length old)
  pub written : IsTableWritten old table (hashed_dinode (dinode_of old) (length old) depth) leaf
  pub first : IsFirstLeaf (drop dinode_length old) (replicate (length old) 0) new
  pub bytes : All (λ byte. byte < 256) new
