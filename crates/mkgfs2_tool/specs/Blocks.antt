-- What stands in each block of a new image.
use Rattle.std.specs.Prelude.{ℕ, ◌≡◌, ◌+◌, ◌-◌, ◌*◌, ◌/◌, ◌^◌, ◌==◌, ◌&&◌, Bool, true, false, min, nat_le, nat_lt, if◌then◌else◌, List, ◌++◌, length, map, replicate, codes, count_by, Some}
use Rattle.gfs2_layout.specs.Structures.{dinode_length}
use Rattle.gfs2_layout.specs.Inode.{leaf_length}
use Rattle.std.specs.List.{range_with_len, flat_map}
use Rattle.std.specs.Int.{w64, to_be_bytes}
use Rattle.gfs2_layout.specs.Bytes.{put_at, slice}
use Rattle.gfs2_layout.specs.Bitmap.{byte_of}
use Rattle.gfs2_layout.specs.Writing.{header_put, superblock_put, dinode_put, rindex_put, group_put, leaf_put}
use Rattle.log_layout.specs.Headers.{log_put}
use Rattle.gfs2_layout.specs.declared.superblock.SuperBlock.{SuperBlock}
use Rattle.gfs2_layout.specs.declared.dinode.Dinode.{Dinode}
use Rattle.gfs2_layout.specs.declared.rindex.Rindex.{Rindex}
use Rattle.gfs2_layout.specs.declared.group_header.GroupHeader.{GroupHeader}
use Rattle.log_layout.specs.declared.log_header.LogHeader.{LogHeader}
use Rattle.mkgfs2_tool.specs.Groups.{super_block, share, last_group, group_address, headers_of, first_data, data_blocks, data_before, data_address}
use Rattle.mkgfs2_tool.specs.Files.{height, level_start, file_blocks, children}
use Rattle.mkgfs2_tool.specs.declared.files.Shape.{Shape}
use Rattle.mkgfs2_tool.specs.declared.files.Part.{Part}
use Rattle.mkgfs2_tool.specs.declared.files.Part.TheVariants.{Top, Pointers, Content}
use Rattle.mkgfs2_tool.specs.declared.order.Use.{Use}
use Rattle.mkgfs2_tool.specs.declared.order.Use.TheVariants.{Master, Root, GroupList, Journals, Leaf, Journal}
use Rattle.mkgfs2_tool.specs.Order.{master_place, root_place, group_list_place, journals_place, journal_place, has_hashed_journals, journal_leaves, group_list, journal, taken, use_of, dinodes, dinode_places}
use Rattle.mkgfs2_tool.specs.Directories.{records, master_entries, root_entries, journals_entries}
use Rattle.mkgfs2_tool.specs.Hashing.{table_depth, table_bytes, leaf_room, leaf_entries, leaf_head}
use Rattle.mkgfs2_tool.specs.declared.plan.Plan.{Plan}
use Rattle.mkgfs2_tool.specs.declared.inodes.Inode.{Inode}

abbrev pub zeros : Plan → List ℕ
zeros p = replicate p.size 0

-- bytes, and zeros behind them to the end of a block
abbrev pub padded : Plan → List ℕ → List ℕ
padded p bytes = bytes ++ replicate (p.size - length bytes) 0

-- ---- the superblock

-- a name, and zeros behind it
abbrev pub text_field : List ℕ → List ℕ
text_field text = text ++ replicate (64 - length text) 0

-- the exponent of a block size
abbrev pub shift_of : ℕ → ℕ
shift_of size = if size == 512 then 9 else if size == 1024 then 10 else if size == 2048 then 11 else 12

abbrev pub superblock : Plan → SuperBlock
superblock p = record {
  fs_format = 1801;
  multihost_format = 1900;
  bsize = p.size;
  bsize_shift = shift_of p.size;
  master = record { number = 1; address = data_address p master_place };
  root = record { number = 2; address = data_address p root_place };
  lock_protocol = text_field (codes "lock_dlm");
  lock_table = text_field (codes "gfs2run:image");
  uuid = p.uuid;
}

-- ---- groups

abbrev pub free_state : ℕ
free_state = 0

abbrev pub used_state : ℕ
used_state = 1

abbrev pub dinode_state : ℕ
dinode_state = 3

abbrev pub is_dinode_part : Part → Bool
is_dinode_part Top = true
is_dinode_part _ = false

abbrev pub is_dinode : Use → Bool
is_dinode (GroupList part) = is_dinode_part part
is_dinode (Journal j part) = is_dinode_part part
is_dinode (Leaf n) = false
is_dinode _ = true

-- the state of data block k
unfoldable pub state : Plan → ℕ → ℕ
state p k = if nat_lt k (taken p) then (if is_dinode (use_of p k) then dinode_state else used_state) else free_state

-- the state of a block of a group, counted from its first data block; behind its data blocks the bitmap has zeros
abbrev pub state_in : Plan → ℕ → ℕ → ℕ
state_in p group n = if nat_lt n (data_blocks p group) then state p (data_before p group + n) else 0

-- byte n of a group's bitmap has four states
unfoldable pub bitmap_byte : Plan → ℕ → ℕ → ℕ
bitmap_byte p group n =
    byte_of (state_in p group (4 * n)) (state_in p group (4 * n + 1)) (state_in p group (4 * n + 2)) (state_in p group (4 * n + 3))

abbrev pub bitmap : Plan → ℕ → ℕ → ℕ → List ℕ
bitmap p group start count = map (bitmap_byte p group) (range_with_len start count)

abbrev pub free_blocks : Plan → ℕ → ℕ
free_blocks p group = data_blocks p group - (taken p - data_before p group)

abbrev pub is_within : ℕ → ℕ → ℕ → Bool
is_within start count k = nat_le start k && nat_lt k (start + count)

abbrev pub dinode_blocks : Plan → ℕ → ℕ
dinode_blocks p group = count_by (is_within (data_before p group) (data_blocks p group)) (dinode_places p)

abbrev pub group_header : Plan → ℕ → GroupHeader
group_header p group = record {
  flags = 0;
  free = free_blocks p group;
  dinodes = dinode_blocks p group;
  skip = 0;
  igeneration = dinodes p;
  data0 = first_data p group;
  data_blocks = data_blocks p group;
  bitbytes = data_blocks p group / 4;
}

-- the first block of a group has its numbers and the beginning of its bitmap, and each further one of its header a further part
unfoldable pub first_header_block : Plan → ℕ → List ℕ
first_header_block p group = put_at 128 (bitmap p group 0 (p.size - 128)) (group_put (group_header p group) (zeros p))

unfoldable pub further_header_block : Plan → ℕ → ℕ → List ℕ
further_header_block p group n =
    put_at 24 (bitmap p group (p.size - 128 + (n - 1) * (p.size - 24)) (p.size - 24)) (header_put (record { kind = 3; format = 300; jid = 0 }) (zeros p))

abbrev pub header_block : Plan → ℕ → ℕ → List ℕ
header_block p group n = if n == 0 then first_header_block p group else further_header_block p group n

abbrev pub group_entry : Plan → ℕ → Rindex
group_entry p group = record {
  address = group_address p group;
  length = headers_of p group;
  data0 = first_data p group;
  data_blocks = data_blocks p group;
  bitbytes = data_blocks p group / 4;
}

-- the entries of the first groups, so many
abbrev pub entries_of : Plan → ℕ → List ℕ
entries_of p groups = flat_map (λ group. rindex_put (group_entry p group) (replicate 96 0)) (range_with_len 0 groups)

unfoldable pub group_entries : Plan → List ℕ
group_entries p = entries_of p p.groups

-- these bytes are the list of groups
pub record IsGroupList (p : Plan) (bytes : List ℕ) : Type 0 where
  pub are : bytes ≡ group_entries p
  pub long : length bytes ≡ 96 * p.groups

-- ---- dinodes

abbrev pub journaled : ℕ
journaled = 0x1

abbrev pub hashed : ℕ
hashed = 0x2

abbrev pub system : ℕ
system = 0x200

-- a directory with so many entries, of which so many are directories
abbrev pub directory : Plan → ℕ → ℕ → Inode
directory p entries directories = record {
  mode = 16877;
  nlink = directories;
  size = p.size - dinode_length;
  blocks = 1;
  flags = journaled;
  payload_format = 1200;
  height = 0;
  depth = 0;
  entries = entries;
}

-- the directory of journals where it is a hashed one: its content is the table, whose pointers have eight bytes, and its leaves are its blocks too
abbrev pub hashed_directory : Plan → Inode
hashed_directory p = record (directory p (2 + p.journals) 2) {
  size = 8 * 2 ^ table_depth;
  blocks = 1 + journal_leaves p;
  flags = journaled + hashed;
  depth = table_depth;
}

abbrev pub system_file : Shape → Inode
system_file f = record {
  mode = 33152;
  nlink = 1;
  size = f.bytes;
  blocks = file_blocks f;
  flags = journaled + system;
  payload_format = 0;
  height = height f;
  depth = 0;
  entries = 0;
}

-- the dinode in the block at this place, with its formal number, which is its generation too
unfoldable pub dinode : Plan → ℕ → ℕ → Inode → Dinode
dinode p number place i = record {
  num = record { number = number; address = data_address p place };
  mode = i.mode;
  uid = 0;
  gid = 0;
  nlink = i.nlink;
  size = i.size;
  blocks = i.blocks;
  atime = p.time;
  mtime = p.time;
  ctime = p.time;
  major = 0;
  minor = 0;
  goal_meta = data_address p place;
  goal_data = data_address p place;
  generation = number;
  flags = i.flags;
  payload_format = i.payload_format;
  height = i.height;
  depth = i.depth;
  entries = i.entries;
  eattr = 0;
  atime_nsec = 0;
  mtime_nsec = 0;
  ctime_nsec = 0;
}

-- a dinode's block, with these bytes behind the dinode
unfoldable pub dinode_block : Plan → Dinode → List ℕ → List ℕ
dinode_block p d behind = put_at dinode_length behind (dinode_put d (zeros p))

-- ---- blocks of files

-- the addresses of blocks of the file that is at this place
abbrev pub addresses : Plan → ℕ → List ℕ → List ℕ
addresses p place blocks = flat_map (λ n. to_be_bytes w64 (data_address p (place + n))) blocks

-- a dinode's block whose pointers lead to the content
unfoldable pub pointing_dinode : Plan → ℕ → ℕ → Shape → List ℕ
pointing_dinode p number place f = dinode_block p (dinode p number place (system_file f)) (addresses p place (children f 0 0))

unfoldable pub pointer_block : Plan → ℕ → Shape → ℕ → ℕ → List ℕ
pointer_block p place f level index = put_at 24 (addresses p place (children f level index)) (header_put (record { kind = 5; format = 500; jid = 0 }) (zeros p))

-- the list of groups stands in its dinode where it fits, else in blocks of its own, and behind its end there are zeros
unfoldable pub group_list_block : Plan → Part → List ℕ
group_list_block p Top =
    if height (group_list p) == 0 then dinode_block p (dinode p 3 group_list_place (system_file (group_list p))) (group_entries p)
    else pointing_dinode p 3 group_list_place (group_list p)
group_list_block p (Pointers level index) = pointer_block p group_list_place (group_list p) level index
group_list_block p (Content n) = padded p (slice (n * p.size) p.size (group_entries p))

-- the clean log header with which journal j begins, written at this time into this block, where the journal's dinode is in that one
abbrev pub clean_header : ℕ → ℕ → ℕ → ℕ → LogHeader
clean_header time j block dinode = record {
  jid = j;
  sequence = 1;
  clean = true;
  tail = 0;
  blkno = 0;
  later = Some (record {
    nsec = 0;
    sec = time;
    addr = block;
    jinode = dinode;
    statfs_addr = 0;
    quota_addr = 0;
    local_total = 0;
    local_free = 0;
    local_dinodes = 0;
  });
}

-- the first block of a journal's content
abbrev pub first_content : Plan → ℕ → ℕ
first_content p j = journal_place p j + level_start (journal p) (height (journal p))

unfoldable pub clean_block : Plan → ℕ → List ℕ
clean_block p j = log_put (clean_header p.time j (data_address p (first_content p j)) (data_address p (journal_place p j))) (zeros p)

-- a journal begins with its clean header, and the rest of it is zeros
unfoldable pub journal_block : Plan → ℕ → Part → List ℕ
journal_block p j Top = pointing_dinode p (5 + j) (journal_place p j) (journal p)
journal_block p j (Pointers level index) = pointer_block p (journal_place p j) (journal p) level index
journal_block p j (Content n) = if n == 0 then clean_block p j else zeros p

-- ---- directories

abbrev pub area_length : Plan → ℕ
area_length p = p.size - dinode_length

unfoldable pub master_block : Plan → List ℕ
master_block p = dinode_block p (dinode p 1 master_place (directory p 4 3)) (records (area_length p) (master_entries p))

unfoldable pub root_block : Plan → List ℕ
root_block p = dinode_block p (dinode p 2 root_place (directory p 2 2)) (records (area_length p) (root_entries p))

-- the records of the directory of journals, or its table
unfoldable pub journals_block : Plan → List ℕ
journals_block p =
    if has_hashed_journals p then dinode_block p (dinode p 4 (journals_place p) (hashed_directory p)) (table_bytes p)
    else dinode_block p (dinode p 4 (journals_place p) (directory p (2 + p.journals) 2)) (records (area_length p) (journals_entries p))

unfoldable pub leaf_block : Plan → ℕ → List ℕ
leaf_block p n = put_at leaf_length (records (leaf_room p) (leaf_entries p n)) (leaf_put (leaf_head p n) (zeros p))

-- ---- the image

unfoldable pub used_block : Plan → Use → List ℕ
used_block p Master = master_block p
used_block p Root = root_block p
used_block p (GroupList part) = group_list_block p part
used_block p Journals = journals_block p
used_block p (Leaf n) = leaf_block p n
used_block p (Journal j part) = journal_block p j part

-- data block k
unfoldable pub data_block : Plan → ℕ → List ℕ
data_block p k = if nat_lt k (taken p) then used_block p (use_of p k) else zeros p

-- block n of a group
unfoldable pub group_block : Plan → ℕ → ℕ → List ℕ
group_block p group n =
    if nat_lt n (headers_of p group) then header_block p group n
    else if nat_lt (n - headers_of p group) (data_blocks p group) then data_block p (data_before p group + (n - headers_of p group))
    else zeros p

-- the group in which the block lies
abbrev pub group_at : Plan → ℕ → ℕ
group_at p block = min ((block - super_block p - 1) / share p) (last_group p)

-- block by block
unfoldable pub new_block : Plan → ℕ → List ℕ
new_block p block =
    if nat_lt block (super_block p) then zeros p
    else if block == super_block p then superblock_put (superblock p) (zeros p)
    else group_block p (group_at p block) (block - group_address p (group_at p block))
