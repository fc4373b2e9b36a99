-- What an inode has: its own blocks, and the part of each.
use Rattle.std.specs.Prelude.{ℕ, ◌==◌, if◌then◌else◌, List, [], Option, None, Some}

-- `Pointed block pointer level first`: this pointer of that block leads here, so many levels above content, and the
-- content here and below begins at the block of content with index `first`.
-- `InChain hash place`: of the chain for the hashes from this one on, the leaf at this place.
pub data Part : Type 0 where
  Itself : Part  -- its dinode
  Pointed : ℕ → ℕ → ℕ → ℕ → Part
  InChain : ℕ → ℕ → Part

pub record Cell : Type 0 where
  pub part : Part
  pub bytes : List ℕ

-- an inode's own blocks, and nothing for any other block: all that an inode says is read from these alone
pub record Holding : Type 0 where
  pub size : ℕ  -- bytes of a block
  pub count : ℕ  -- blocks of the image
  pub own : ℕ  -- the block of the inode's dinode
  pub cell : ℕ → Option Cell

-- an inode that has its dinode's block and no other
abbrev pub alone : ℕ → ℕ → ℕ → List ℕ → Holding
alone size count block bytes = record { size = size; count = count; own = block; cell = λ b. if b == block then Some (record { part = Itself; bytes = bytes }) else None }

abbrev pub cell_bytes : Option Cell → List ℕ
cell_bytes None = []
cell_bytes (Some c) = c.bytes

abbrev pub cell_part : Option Cell → Option Part
cell_part None = None
cell_part (Some c) = Some c.part

-- the bytes of a block of the inode; none of a block that it hasn't
abbrev pub bytes_at : Holding → ℕ → List ℕ
bytes_at h b = cell_bytes (h.cell b)

abbrev pub part_at : Holding → ℕ → Option Part
part_at h b = cell_part (h.cell b)
