-- A directory's table as a file, and the bytes of one that is twice as long.
use Rattle.std.specs.Prelude.{ℕ, suc, ◌≡◌, ◌+◌, ◌-◌, ◌*◌, ◌/◌, ◌<◌, ◌==◌, nat_lt, if◌then◌else◌, List, [], ◌++◌, flat_map, length, take, drop, replicate, Option, Some}
use Rattle.std.specs.List.{range_with_len}
use Rattle.gfs2_layout.specs.Bytes.{slice, u64_at}
use Rattle.gfs2_layout.specs.Headers.{HasHeader}
use Rattle.gfs2_layout.specs.Holding.{Cell, Holding, Itself, bytes_at, part_at}
use Rattle.gfs2_layout.specs.Inode.{content_block, content_count, dinode_in, entry, header_length, height_in, is_leaf_part, pieces, table_count}
use Rattle.gfs2_layout.specs.Structures.{dinode_length, dinode_of}
use Rattle.gfs2_layout.specs.Writing.{dinode_put}
use Rattle.gfs2_layout.specs.declared.dinode.Dinode.{Dinode}
use Rattle.table_growth.specs.Tables.{table_header, without_leaf}

-- ---- the file that a directory's table is

-- the dinode of a regular file with these blocks of content, whole, and with one link
abbrev pub file_dinode : Holding → ℕ → Dinode
file_dinode h blocks = record (dinode_in h) {
  mode = 33188;
  nlink = 1;
  depth = 0;
  size = (if height_in h == 0 then 0 else content_count h * h.size);
  blocks = blocks;
}

abbrev pub own_cell : List ℕ → Option Cell
own_cell bytes = Some (record { part = Itself; bytes = bytes })

-- the directory without its leaves, and these bytes in its dinode's block
abbrev pub file_cells : Holding → List ℕ → ℕ → Option Cell
file_cells h bytes b = if b == h.own then own_cell bytes else without_leaf (h.cell b)

-- bytes of the inode's dinode's block with another dinode over its own
pub record SaysInstead (h : Holding) (d : Dinode) (bytes : List ℕ) : Type 0 where
  pub put : bytes ≡ dinode_put d (bytes_at h h.own)
  pub said : dinode_of bytes ≡ d
  pub header : HasHeader 4 400 bytes
  pub whole : length bytes ≡ h.size
  pub behind : drop dinode_length bytes ≡ drop dinode_length (bytes_at h h.own)

-- the dinode of a directory whose table has grown to this height in blocks of which so many are new
abbrev pub doubled_dinode : Holding → ℕ → ℕ → Dinode
doubled_dinode h height more = record (dinode_in h) {
  depth = (dinode_in h).depth + 1;
  size = 2 * (dinode_in h).size;
  height = height;
  blocks = (dinode_in h).blocks + more;
}

-- ---- a directory made of a file again

-- the blocks of the file, the leaves of the directory, and these bytes in the dinode's block
abbrev pub directory_cells : Holding → Holding → List ℕ → ℕ → Option Cell
directory_cells h k bytes b = if b == h.own then own_cell bytes else (if is_leaf_part (part_at h b) then h.cell b else k.cell b)

-- ---- the bytes of table blocks

-- the header of the table block with this index: one of those that there are, one behind another, or a new one
abbrev pub header_at : List ℕ → ℕ → List ℕ
header_at headers j = if nat_lt (j * header_length) (length headers) then slice (j * header_length) header_length headers else table_header

-- the table block with this index: its header, its part of the pointers, and zeros behind the last of them
abbrev pub table_block : ℕ → List ℕ → List ℕ → ℕ → List ℕ
table_block size headers pointers j =
    let part = slice (j * (size - header_length)) (size - header_length) pointers in
    header_at headers j ++ (part ++ replicate (size - header_length - length part) 0)

-- all table blocks, one behind another
abbrev pub table_bytes : ℕ → List ℕ → List ℕ → List ℕ
table_bytes size headers pointers = flat_map (table_block size headers pointers) (range_with_len 0 (pieces (length pointers) (size - header_length)))

-- the headers of the table blocks that the directory has
pub record AreHeadersOf (h : Holding) (headers : List ℕ) : Type 0 where
  pub none : height_in h ≡ 0 → headers ≡ []
  pub long : (level : ℕ) → height_in h ≡ suc level → length headers ≡ content_count h * header_length
  pub each : (level j : ℕ) → height_in h ≡ suc level → j < content_count h → slice (j * header_length) header_length headers ≡ take header_length (bytes_at h (content_block h j))

-- the bytes of its pointers, each of them twice
pub record AreDoubledPointers (h : Holding) (pointers : List ℕ) : Type 0 where
  pub long : length pointers ≡ 8 * (2 * table_count h)
  pub each : (i : ℕ) → i < 2 * table_count h → u64_at (8 * i) pointers ≡ entry h (i / 2)
