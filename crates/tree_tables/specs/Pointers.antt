-- The pointers of a table that stands in its directory's blocks.
use Rattle.std.specs.Prelude.{ℕ, ◌≡◌, ◌+◌, ◌-◌, ◌*◌, ◌/◌, ◌%◌, ◌^◌, ◌≤◌, ◌==◌, true, if◌then◌else◌, List, [], Option, None, Some, option_map}
use Rattle.gfs2_layout.specs.Bytes.{u64_at}
use Rattle.gfs2_layout.specs.Holding.{Holding, Itself, bytes_at}
use Rattle.gfs2_layout.specs.Inode.{depth_in, dinode_in, header_length, height_in, is_hashed_in}
use Rattle.gfs2_layout.specs.Structures.{dinode_length}
use Rattle.glock_names.specs.Views.{Seen}
use Rattle.dinode_tree.specs.Reading.{AreWholeBefore, block_at}
use Rattle.dinode_tree.specs.Shown as inode
use Rattle.hash_dirs.specs.pointer.Pointer.{Pointer}
use Rattle.tree_tables.specs.declared.tree_table.TreeTable.{TreeTable}

-- the bytes that a view has of a block; none of one that it hasn't
abbrev pub bytes_or_none : Option (List ℕ) → List ℕ
bytes_or_none None = []
bytes_or_none (Some bytes) = bytes

-- the inode as a view has it, whose other blocks have no bytes
abbrev pub seen_as : Seen → ℕ → Holding
seen_as v a = record { size = v.size; count = 0; own = a; cell = λ b. Some (record { part = Itself; bytes = bytes_or_none (v.block_at b) }) }

-- how much of the content a table block carries
abbrev pub carries : Holding → ℕ
carries h = h.size - header_length

abbrev pub or_zero : Option ℕ → ℕ
or_zero None = 0
or_zero (Some b) = b

-- the table block that has pointer i; 0 where the table has a hole
abbrev pub table_block : Holding → ℕ → ℕ
table_block h i = or_zero (block_at h (8 * i / carries h))

-- pointer i as its block has it: behind the dinode, or behind the header of a table block; 0 where the table has a hole
abbrev pub pointer_at : Holding → ℕ → ℕ
pointer_at h i =
    if height_in h == 0 then u64_at (dinode_length + 8 * i) (bytes_at h h.own)
    else (if table_block h i == 0 then 0 else u64_at (header_length + 8 * i % carries h) (bytes_at h (table_block h i)))

-- the block that has it; the dinode's where the table has a hole
abbrev pub block_of : Holding → ℕ → ℕ
block_of h i = if height_in h == 0 then h.own else (if table_block h i == 0 then h.own else table_block h i)

-- pointer i, and the block that has it, as a view tells them
abbrev pub pointer_in : TreeTable → Seen → ℕ → Option Pointer
pointer_in t v i =
    let h = seen_as v t.directory in
    option_map (λ bytes. record { leaf = pointer_at h i; from = block_of h i }) (v.block_at (block_of h i))

-- the table is that of this directory
pub record IsTableOf (t : TreeTable) (v : Seen) (h : Holding) : Type 0 where
  pub shown : inode.IsShown v t.directory h
  pub hashed : is_hashed_in h ≡ true
  pub depth : t.depth ≡ depth_in h
  pub least : h.size / 16 ≤ 2 ^ t.depth
  pub size : (dinode_in h).size ≡ 8 * 2 ^ t.depth
  pub whole : (at : ℕ) → AreWholeBefore h at
