-- The structures on a block, by their bytes, and the faults of reading them. Places are in bytes from the structure's start.
use Rattle.std.specs.Prelude.{ℕ, ◌+◌, ◌/◌, ◌%◌, ◌==◌, ◌&&◌, not, nat_lt, Bool, if◌then◌else◌, List, length, Option, None, Some, Result, Ok, Err}
use Rattle.gfs2_layout.specs.Bytes.{slice, u16_at, u32_at, u64_at}
use Rattle.gfs2_layout.specs.Checksum.{checksum_of}
use Rattle.gfs2_layout.specs.declared.fault.LayoutFault.{LayoutFault}
use Rattle.gfs2_layout.specs.declared.fault.LayoutFault.TheVariants.{Short, Magic, Kind, Format, Value, Hash}
use Rattle.gfs2_layout.specs.declared.header.MetaHeader.{MetaHeader}
use Rattle.gfs2_layout.specs.declared.inum.Inum.{Inum}
use Rattle.gfs2_layout.specs.declared.superblock.SuperBlock.{SuperBlock}
use Rattle.gfs2_layout.specs.declared.dinode.Dinode.{Dinode}
use Rattle.gfs2_layout.specs.declared.dirent.Dirent.{Dirent}
use Rattle.gfs2_layout.specs.declared.rindex.Rindex.{Rindex}
use Rattle.gfs2_layout.specs.declared.group_header.GroupHeader.{GroupHeader}
use Rattle.gfs2_layout.specs.declared.leaf.Leaf.{Leaf}
use Rattle.gfs2_layout.specs.declared.log_header.LogHeader.{LogHeader}

-- ---- faults: that of the first check that fails

abbrev pub or_else : Option LayoutFault → Option LayoutFault → Option LayoutFault
or_else None later = later
or_else (Some fault) later = Some fault

abbrev pub answer : {A : Type 0} → Option LayoutFault → A → Result A LayoutFault
answer None structure = Ok structure
answer (Some fault) structure = Err fault

abbrev pub length_fault : ℕ → List ℕ → Option LayoutFault
length_fault needed bytes = if nat_lt (length bytes) needed then Some Short else None

-- 0x01161970, which begins every block of metadata
abbrev pub magic : ℕ
magic = 0x01161970

abbrev pub magic_fault : List ℕ → Option LayoutFault
magic_fault bytes = if u32_at 0 bytes == magic then None else Some Magic

-- a block of metadata of this kind and format
abbrev pub header_fault : ℕ → ℕ → ℕ → List ℕ → Option LayoutFault
header_fault needed kind format bytes =
    if nat_lt (length bytes) needed then Some Short
    else if not (u32_at 0 bytes == magic) then Some Magic
    else if not (u32_at 4 bytes == kind) then Some (Kind (u32_at 4 bytes))
    else if not (u32_at 16 bytes == format) then Some (Format (u32_at 16 bytes))
    else None

-- ---- the structures

abbrev pub header_of : List ℕ → MetaHeader
header_of bytes = record { kind = u32_at 4 bytes; format = u32_at 16 bytes; jid = u32_at 20 bytes }

abbrev pub header_read : List ℕ → Result MetaHeader LayoutFault
header_read bytes = answer (or_else (length_fault 24 bytes) (magic_fault bytes)) (header_of bytes)

abbrev pub inum_at : ℕ → List ℕ → Inum
inum_at at bytes = record { number = u64_at at bytes; address = u64_at (at + 8) bytes }

abbrev pub superblock_of : List ℕ → SuperBlock
superblock_of bytes = record {
  fs_format = u32_at 24 bytes;
  multihost_format = u32_at 28 bytes;
  bsize = u32_at 36 bytes;
  bsize_shift = u32_at 40 bytes;
  master = inum_at 48 bytes;
  root = inum_at 80 bytes;
  lock_protocol = slice 96 64 bytes;
  lock_table = slice 160 64 bytes;
  uuid = slice 256 16 bytes;
}

abbrev pub superblock_read : List ℕ → Result SuperBlock LayoutFault
superblock_read bytes = answer (header_fault 272 1 100 bytes) (superblock_of bytes)

abbrev pub dinode_of : List ℕ → Dinode
dinode_of bytes = record {
  num = inum_at 24 bytes;
  mode = u32_at 40 bytes;
  uid = u32_at 44 bytes;
  gid = u32_at 48 bytes;
  nlink = u32_at 52 bytes;
  size = u64_at 56 bytes;
  blocks = u64_at 64 bytes;
  atime = u64_at 72 bytes;
  mtime = u64_at 80 bytes;
  ctime = u64_at 88 bytes;
  major = u32_at 96 bytes;
  minor = u32_at 100 bytes;
  goal_meta = u64_at 104 bytes;
  goal_data = u64_at 112 bytes;
  generation = u64_at 120 bytes;
  flags = u32_at 128 bytes;
  payload_format = u32_at 132 bytes;
  height = u16_at 138 bytes;
  depth = u16_at 146 bytes;
  entries = u32_at 148 bytes;
  eattr = u64_at 168 bytes;
  atime_nsec = u32_at 176 bytes;
  mtime_nsec = u32_at 180 bytes;
  ctime_nsec = u32_at 184 bytes;
}

-- how many bytes a dinode has; the content of a stuffed inode follows them
abbrev pub dinode_length : ℕ
dinode_length = 232

abbrev pub dinode_read : List ℕ → Result Dinode LayoutFault
dinode_read bytes = answer (header_fault dinode_length 4 400 bytes) (dinode_of bytes)

-- the four bits of a mode that say of which type a file is; those above them say nothing of it
abbrev pub file_type : ℕ → ℕ
file_type mode = mode / 4096 % 16

abbrev pub is_directory : Dinode → Bool
is_directory d = file_type d.mode == 4

abbrev pub is_regular : Dinode → Bool
is_regular d = file_type d.mode == 8

abbrev pub dirent_of : List ℕ → Dirent
dirent_of bytes = record {
  inum = inum_at 0 bytes;
  hash = u32_at 16 bytes;
  rec_len = u16_at 20 bytes;
  name_len = u16_at 22 bytes;
  kind = u16_at 24 bytes;
  rahead = u16_at 26 bytes;
}

-- a record is in use where neither number of its inum is zero
abbrev pub is_in_use : Dirent → Bool
is_in_use d = not (d.inum.number == 0) && not (d.inum.address == 0)

-- a record in use is that of a directory, 4, or of a regular file, 8
abbrev pub kind_fault : Dirent → Option LayoutFault
kind_fault d = if is_in_use d && not (d.kind == 4) && not (d.kind == 8) then Some (Value 24 d.kind) else None

abbrev pub dirent_read : List ℕ → Result Dirent LayoutFault
dirent_read bytes = answer (or_else (length_fault 40 bytes) (kind_fault (dirent_of bytes))) (dirent_of bytes)

-- an entry of the list of groups has no header
abbrev pub rindex_of : List ℕ → Rindex
rindex_of bytes = record {
  address = u64_at 0 bytes;
  length = u32_at 8 bytes;
  data0 = u64_at 16 bytes;
  data_blocks = u32_at 24 bytes;
  bitbytes = u32_at 28 bytes;
}

abbrev pub rindex_read : List ℕ → Result Rindex LayoutFault
rindex_read bytes = answer (length_fault 96 bytes) (rindex_of bytes)

abbrev pub group_of : List ℕ → GroupHeader
group_of bytes = record {
  flags = u32_at 24 bytes;
  free = u32_at 28 bytes;
  dinodes = u32_at 32 bytes;
  skip = u32_at 36 bytes;
  igeneration = u64_at 40 bytes;
  data0 = u64_at 48 bytes;
  data_blocks = u32_at 56 bytes;
  bitbytes = u32_at 60 bytes;
}

-- its checksum is not looked at
abbrev pub group_read : List ℕ → Result GroupHeader LayoutFault
group_read bytes = answer (header_fault 128 2 200 bytes) (group_of bytes)

abbrev pub leaf_of : List ℕ → Leaf
leaf_of bytes = record {
  depth = u16_at 24 bytes;
  entries = u16_at 26 bytes;
  next = u64_at 32 bytes;
}

-- a leaf says of which format its records are
abbrev pub records_fault : List ℕ → Option LayoutFault
records_fault bytes = if u32_at 28 bytes == 1200 then None else Some (Value 28 (u32_at 28 bytes))

abbrev pub leaf_read : List ℕ → Result Leaf LayoutFault
leaf_read bytes = answer (or_else (header_fault 104 6 600 bytes) (records_fault bytes)) (leaf_of bytes)

-- the lowest flag of a log header is that of a clean journal
abbrev pub log_of : List ℕ → LogHeader
log_of bytes = record {
  jid = u32_at 20 bytes;
  sequence = u64_at 24 bytes;
  clean = u32_at 32 bytes % 2 == 1;
  tail = u32_at 36 bytes;
  blkno = u32_at 40 bytes;
}

abbrev pub hash_fault : List ℕ → Option LayoutFault
hash_fault bytes = if u32_at 44 bytes == checksum_of 48 44 bytes then None else Some (Hash (u32_at 44 bytes) (checksum_of 48 44 bytes))

abbrev pub log_read : List ℕ → Result LogHeader LayoutFault
log_read bytes = answer (or_else (header_fault 48 8 800 bytes) (hash_fault bytes)) (log_of bytes)
