-- What breaks which rule at which block: of any image, without a table of owners.
-- All speak of the image as it lies. That a block is live in two journals, the twentieth rule, stands with the replayed image.
use Rattle.std.specs.Prelude.{ℕ, suc, ◌≡◌, ◌≢◌, ◌⊎◌, ◌+◌, ◌-◌, ◌*◌, ◌/◌, ◌%◌, ◌<◌, ◌≤◌, true, false, List, length, codes, slice_get, flat_map, Contains, None, Some, Err}
use Rattle.std.specs.List.Sorted.{IsStrictlyIncreasing}
use Rattle.file_tree.specs.Names.{IsName}
use Rattle.file_tree.specs.Apply.{file_limit}
use Rattle.crc_words.specs.Remainder.{crc32_of}
use Rattle.gfs2_layout.specs.Bytes.{u32_at}
use Rattle.gfs2_layout.specs.Structures.{dinode_length, is_regular, is_in_use}
use Rattle.gfs2_layout.specs.Area.{Slot, name_of, slots_of, IsArea}
use Rattle.gfs2_layout.specs.declared.rindex.Rindex.{Rindex}
use Rattle.gfs2_layout.specs.Bitmap.{state_at}
use Rattle.image_model.specs.Claims.{every, Claims, IsInodeAt, HasInode, HasDirectory, HasLeaf, IsLeafBehind, HasArea, master_of, IsRindex, IsJindex, HasJournal, IsUnder}
use Rattle.gfs2_layout.specs.Groups.{bitmap_of, group_header, states_in, count_of}
use Rattle.image_model.specs.Groups.{groups_in, entry_length, IsGroupAt, IsListed, end_of, IsHeaderOf, IsDataOf, IsNear, GroupFits, group_blocks, state_of}
use Rattle.gfs2_layout.specs.Inode.{Leads, entry_block, dinode_in, height_in, is_directory_in, is_hashed_in, fan, span, content_block, content_of, content_count, table_count, depth_in, entry, index_bits, leaf_in, leaf_area, linear_area, top_bits, head_of}
use Rattle.image_model.specs.Image.{Image, superblock_in}
use Rattle.gfs2_layout.specs.Headers.{HasHeader}
use Rattle.gfs2_layout.specs.Device.{superblock_place}
use Rattle.image_model.specs.Owners.{Owner, Below, Chained, parent_of, IsWithin, AreOneChain}
use Rattle.log_layout.specs.Journal.{ring_of, head_in}
use Rattle.log_layout.specs.Transactions.{transactions_of}
use Rattle.log_layout.specs.declared.log_header.LogHeader.{LogHeader}
use Rattle.gfs2_layout.specs.Records.{Record, records_in, is_dots}
use Rattle.gfs2_layout.specs.Exchanges.{directory_count}
use Rattle.image_model.specs.Stands.{kind_of}

-- ---- the list of groups

-- These groups are listed in the one file that is `rindex`, whose dinode has its header, and which is whole entries; they fit, and rise without overlapping.
pub record IsSoundList (im : Image) (groups : List Rindex) : Type 0 where
  pub inode : ℕ
  pub rindex : IsRindex im inode
  pub only : (d : ℕ) → IsRindex im d → d ≡ inode
  pub header : HasHeader 4 400 (im.at inode)
  pub whole : (dinode_in (every im inode)).size % entry_length ≡ 0
  pub listed : groups_in (content_of (every im inode)) ≡ groups
  pub fit : (g : Rindex) → IsListed groups g → GroupFits im g
  pub rise : (i j : ℕ) (g h : Rindex) → IsGroupAt groups i g → IsGroupAt groups j h → i < j → end_of g ≤ h.address

-- A sound list that leaves no block of the device above the superblock bare: each is in one of these groups, or one of at most three behind one.
pub record IsWholeList (im : Image) (groups : List Rindex) : Type 0 where
  pub sound : IsSoundList im groups
  pub rest : (b : ℕ) → superblock_place im.size < b → b < im.count → (g : Rindex) × IsListed groups g × IsNear g b

-- a group of a whole list
abbrev pub HasSoundGroup : Image → Rindex → Type 0
HasSoundGroup im g = (groups : List Rindex) × IsWholeList im groups × IsListed groups g

-- the first block of the device above the superblock that has none of these groups, and none leaves behind it
pub record IsFirstBare (im : Image) (groups : List Rindex) (b : ℕ) : Type 0 where
  pub above : superblock_place im.size < b
  pub inside : b < im.count
  pub bare : (g : Rindex) → IsListed groups g → ¬ (IsNear g b)
  pub first : (c : ℕ) → superblock_place im.size < c → c < b → (g : Rindex) × IsListed groups g × IsNear g c

-- ---- what stands where

-- the header that a place needs; that of a group or its bitmap, where the list is whole
pub data Needs (im : Image) : ℕ → ℕ → ℕ → Type 0 where
  of_superblock : Needs im (superblock_place im.size) 1 100
  of_group : (g : Rindex) → HasSoundGroup im g → Needs im g.address 2 200
  of_bitmap : (g : Rindex) (k : ℕ) → HasSoundGroup im g → 0 < k → k < g.length → Needs im (g.address + k) 3 300
  of_dinode : (a : ℕ) → HasInode im a → Needs im a 4 400
  of_indirect : (by a x b k level first : ℕ) → Claims im by x (Below a b k (suc level) first) → Needs im x 5 500
  of_table : (by a x b k first : ℕ) → Claims im by x (Below a b k 0 first) → is_directory_in (every im a) ≡ true → Needs im x 7 700
  of_leaf : (a x : ℕ) → HasLeaf im a x → Needs im x 6 600

-- the block lies in no group's data blocks, by a whole list
abbrev pub IsOutside : Image → ℕ → Type 0
IsOutside im c = (groups : List Rindex) × IsWholeList im groups × ((g : Rindex) → IsListed groups g → ¬ (IsDataOf g c))

abbrev pub bits_of : Image → Rindex → ℕ → ℕ
bits_of im g b = state_at (bitmap_of (group_blocks im.at g)) (b - g.data0)

abbrev pub states_at : Image → Rindex → List ℕ
states_at im g = states_in (group_blocks im.at g) g.data_blocks

-- the bits of a data block are wrong: not its owner's state, or 2, or not free where nobody claims it
pub data HasWrongBits (im : Image) (g : Rindex) (b : ℕ) : Type 0 where
  of_owner : (by : ℕ) (o : Owner) → Claims im by b o → bits_of im g b ≢ state_of o → HasWrongBits im g b
  unlinked : bits_of im g b ≡ 2 → HasWrongBits im g b
  stray : ((by : ℕ) (o : Owner) → Claims im by b o → ⊥) → bits_of im g b ≢ 0 → HasWrongBits im g b

-- ---- lists of what is claimed, each in rising order

-- the blocks of an inode beside its dinode
pub record AreWithin (im : Image) (a : ℕ) (blocks : List ℕ) : Type 0 where
  pub rise : IsStrictlyIncreasing blocks
  pub all : (by c : ℕ) (o : Owner) → Claims im by c o → IsWithin a o → Contains blocks c
  pub only : (c : ℕ) → Contains blocks c → (by : ℕ) × ((o : Owner) × Claims im by c o × IsWithin a o)

-- the leaves of a directory
pub record AreLeaves (im : Image) (a : ℕ) (leaves : List ℕ) : Type 0 where
  pub rise : IsStrictlyIncreasing leaves
  pub all : (x : ℕ) → HasLeaf im a x → Contains leaves x
  pub only : (x : ℕ) → Contains leaves x → HasLeaf im a x

-- all records of a directory
pub data HasRecords (im : Image) (a : ℕ) : List Record → Type 0 where
  from_dinode_block : HasDirectory im a → is_hashed_in (every im a) ≡ false → HasRecords im a (records_in (linear_area (every im a)))
  from_leaves : (leaves : List ℕ) → HasDirectory im a → is_hashed_in (every im a) ≡ true → AreLeaves im a leaves
      → HasRecords im a (flat_map (λ x. records_in (leaf_area (every im a) x)) leaves)

-- a record of a directory, and the block that it stands in
abbrev pub HasRecordIn : Image → ℕ → ℕ → Record → Type 0
HasRecordIn im a x r = (area : List ℕ) × HasArea im a x area × Contains (records_in area) r

abbrev pub IsHashedAt : Image → ℕ → Type 0
IsHashedAt im a = HasInode im a × (is_hashed_in (every im a) ≡ true)

-- ---- the rules

-- `Breaks im rule b`: block b breaks this rule
pub data Breaks (im : Image) : ℕ → ℕ → Type 0 where
  -- 1: a block lacks the header that its place needs, or is the superblock's and lies outside the device
  no_superblock : im.count ≤ superblock_place im.size → Breaks im 1 (superblock_place im.size)
  no_header : (b kind format : ℕ) → Needs im b kind format → ¬ (HasHeader kind format (im.at b)) → Breaks im 1 b
  -- 2: a block has the number of a block that is outside the device, or outside every group's data blocks
  beyond_device : (b c : ℕ) (o : Owner) → Claims im b c o → im.count ≤ c → Breaks im 2 b
  beyond_groups : (b c : ℕ) (o : Owner) → Claims im b c o → IsOutside im c → Breaks im 2 b
  -- 3: a block has two owners, which aren't two places of one chain of leaves: a chain that returns to itself breaks the fifteenth
  two_owners : (b by by' : ℕ) (o p : Owner) → Claims im by b o → Claims im by' b p → o ≢ p → ¬ (AreOneChain o p) → Breaks im 3 b
  -- 4: a group's header differs from the list of groups, which is whole, as it is for the next two rules
  other_data0 : (g : Rindex) → HasSoundGroup im g → (group_header (group_blocks im.at g)).data0 ≢ g.data0 → Breaks im 4 g.address
  other_data_blocks : (g : Rindex) → HasSoundGroup im g → (group_header (group_blocks im.at g)).data_blocks ≢ g.data_blocks → Breaks im 4 g.address
  other_bitbytes : (g : Rindex) → HasSoundGroup im g → (group_header (group_blocks im.at g)).bitbytes ≢ g.bitbytes → Breaks im 4 g.address
  -- 5: a block's bits are wrong
  wrong_bits : (g : Rindex) (b : ℕ) → HasSoundGroup im g → IsDataOf g b → HasWrongBits im g b → Breaks im 5 b
  -- 6: a group's free blocks or dinodes aren't the count of its bits
  free_count : (g : Rindex) → HasSoundGroup im g → (group_header (group_blocks im.at g)).free ≢ count_of 0 (states_at im g) → Breaks im 6 g.address
  dinode_count : (g : Rindex) → HasSoundGroup im g → (group_header (group_blocks im.at g)).dinodes ≢ count_of 3 (states_at im g) → Breaks im 6 g.address
  -- 7: a dinode's own address isn't its block, or its formal number is zero
  other_address : (a : ℕ) → HasInode im a → (dinode_in (every im a)).num.address ≢ a → Breaks im 7 a
  no_number : (a : ℕ) → HasInode im a → (dinode_in (every im a)).num.number ≡ 0 → Breaks im 7 a
  -- 8: a dinode's mode, height or size doesn't fit, or a pointer under it leads wholly past its size, or it is a journal's and has a hole or a part of a block
  no_mode : (a : ℕ) → HasInode im a → is_directory_in (every im a) ≡ false → is_regular (dinode_in (every im a)) ≡ false → Breaks im 8 a
  root_is_file : is_directory_in (every im (superblock_in im).root.address) ≡ false → Breaks im 8 (superblock_in im).root.address
  too_high : (a : ℕ) → HasInode im a → 10 < height_in (every im a) → Breaks im 8 a
  too_large_for_dinode : (a : ℕ) → HasInode im a → height_in (every im a) ≡ 0 → im.size < dinode_length + (dinode_in (every im a)).size → Breaks im 8 a
  too_large_for_height : (a level : ℕ) → HasInode im a → height_in (every im a) ≡ suc level
      → fan im.size dinode_length * span im.size level < content_count (every im a) → Breaks im 8 a
  too_long : (a : ℕ) → IsUnder im (superblock_in im).root.address a → is_regular (dinode_in (every im a)) ≡ true
      → file_limit < (dinode_in (every im a)).size → Breaks im 8 a
  linear_height : (a : ℕ) → HasDirectory im a → is_hashed_in (every im a) ≡ false → height_in (every im a) ≢ 0 → Breaks im 8 a
  linear_size : (a : ℕ) → HasDirectory im a → is_hashed_in (every im a) ≡ false → dinode_length + (dinode_in (every im a)).size ≢ im.size → Breaks im 8 a
  past_end : (a b k level first c : ℕ) → HasInode im a → Leads (every im a) b k level first c → content_count (every im a) ≤ first → Breaks im 8 a
  journal_hole : (j d p : ℕ) → HasJournal im j d → p < (ring_of (every im d)).places → content_block (every im d) p ≡ 0 → Breaks im 8 d
  journal_part : (j d : ℕ) → HasJournal im j d → (dinode_in (every im d)).size % im.size ≢ 0 → Breaks im 8 d
  -- 9: records don't fill their area, a name isn't a name, or a hash isn't its name's
  unfilled : (a x : ℕ) (area : List ℕ) → HasArea im a x area → ¬ (IsArea area) → Breaks im 9 x
  no_name : (a x : ℕ) (r : Record) → HasRecordIn im a x r → is_dots r.name ≡ false → ¬ (IsName r.name) → Breaks im 9 x
  other_hash : (a x : ℕ) (area : List ℕ) (s : Slot) → HasArea im a x area → Contains (slots_of area) s → is_in_use s.head ≡ true
      → s.head.hash ≢ crc32_of (name_of s) → Breaks im 9 x
  -- 10: two records of one name, or `.` or `..` missing or wrong
  twice_in_area : (a x i j : ℕ) (area : List ℕ) (r s : Record) → HasArea im a x area → slice_get (records_in area) i ≡ Some r
      → slice_get (records_in area) j ≡ Some s → i ≢ j → r.name ≡ s.name → Breaks im 10 x
  twice : (a x y : ℕ) (r s : Record) → HasRecordIn im a x r → HasRecordIn im a y s → x ≢ y → r.name ≡ s.name → Breaks im 10 x
  no_dot : (a : ℕ) → HasDirectory im a → ((x : ℕ) (r : Record) → HasRecordIn im a x r → r.name ≢ codes ".") → Breaks im 10 a
  no_dots : (a : ℕ) → HasDirectory im a → ((x : ℕ) (r : Record) → HasRecordIn im a x r → r.name ≢ codes "..") → Breaks im 10 a
  other_dot : (a x : ℕ) (r : Record) → HasRecordIn im a x r → r.name ≡ codes "." → r.address ≢ a → Breaks im 10 a
  other_dots : (a x : ℕ) (o : Owner) (r : Record) → IsInodeAt im a o → HasRecordIn im a x r → r.name ≡ codes ".." → r.address ≢ parent_of a o → Breaks im 10 a
  -- 11: a record's kind or formal number differs from its dinode's
  other_kind : (a x : ℕ) (r : Record) → HasRecordIn im a x r → r.kind ≢ kind_of (head_of (every im r.address)) → Breaks im 11 x
  other_number : (a x : ℕ) (r : Record) → HasRecordIn im a x r → r.number ≢ (head_of (every im r.address)).number → Breaks im 11 x
  -- 12: links or entries aren't the count
  file_links : (a : ℕ) → HasInode im a → is_directory_in (every im a) ≡ false → (dinode_in (every im a)).nlink ≢ 1 → Breaks im 12 a
  directory_links : (a : ℕ) (records : List Record) → HasRecords im a records → (dinode_in (every im a)).nlink ≢ 2 + directory_count records → Breaks im 12 a
  entry_count : (a : ℕ) (records : List Record) → HasRecords im a records → (dinode_in (every im a)).entries ≢ length records → Breaks im 12 a
  -- 13: a table's depth is below the first or above the greatest, or the size isn't that of the table
  table_too_small : (a : ℕ) → IsHashedAt im a → table_count (every im a) < im.size / 16 → Breaks im 13 a
  table_too_large : (a : ℕ) → IsHashedAt im a → 8 * im.size < table_count (every im a) → Breaks im 13 a
  table_size : (a : ℕ) → IsHashedAt im a → (dinode_in (every im a)).size ≢ 8 * table_count (every im a) → Breaks im 13 a
  -- 14: a leaf's depth, pointers, entries or hashes don't belong
  records_format : (a x : ℕ) → HasLeaf im a x → u32_at 28 (im.at x) ≢ 1200 → Breaks im 14 x
  leaf_too_deep : (a x : ℕ) → HasLeaf im a x → depth_in (every im a) < (leaf_in (every im a) x).depth → Breaks im 14 x
  chain_depth : (a x : ℕ) → HasLeaf im a x → (leaf_in (every im a) x).next ≢ 0
      → (leaf_in (every im a) (leaf_in (every im a) x).next).depth ≢ (leaf_in (every im a) x).depth → Breaks im 14 (leaf_in (every im a) x).next
  no_leaf : (a i : ℕ) → IsHashedAt im a → i < table_count (every im a) → entry (every im a) i ≡ 0 → Breaks im 14 (entry_block (every im a) i)
  pointer_missing : (a i j : ℕ) → IsHashedAt im a → i < table_count (every im a) → entry (every im a) i ≢ 0 → j < table_count (every im a)
      → index_bits (every im a) (leaf_in (every im a) (entry (every im a) i)).depth j ≡ index_bits (every im a) (leaf_in (every im a) (entry (every im a) i)).depth i
      → entry (every im a) j ≢ entry (every im a) i → Breaks im 14 (entry (every im a) i)
  pointer_astray : (a i j : ℕ) → IsHashedAt im a → i < table_count (every im a) → entry (every im a) i ≢ 0 → j < table_count (every im a)
      → entry (every im a) j ≡ entry (every im a) i
      → index_bits (every im a) (leaf_in (every im a) (entry (every im a) i)).depth j ≢ index_bits (every im a) (leaf_in (every im a) (entry (every im a) i)).depth i
      → Breaks im 14 (entry (every im a) i)
  leaf_entries : (a x : ℕ) → HasLeaf im a x → (leaf_in (every im a) x).entries ≢ length (records_in (leaf_area (every im a) x)) → Breaks im 14 x
  leaf_hash : (a x by hash place : ℕ) (r : Record) → Claims im by x (Chained a hash place) → Contains (records_in (leaf_area (every im a) x)) r
      → top_bits (leaf_in (every im a) x).depth (crc32_of r.name) ≢ top_bits (leaf_in (every im a) x).depth hash → Breaks im 14 x
  -- 15: a chain of leaves returns to itself; each leaf that comes again behind itself
  comes_again : (a x n : ℕ) → HasLeaf im a x → IsLeafBehind im a x n x → 0 < n → Breaks im 15 x
  -- 16: a journal has no accepted header; or there is no directory of journals: nothing that has its name is a directory
  no_jindex : ((d : ℕ) → IsJindex im d → is_directory_in (every im d) ≡ true → ⊥) → Breaks im 16 (master_of im)
  headless : (j d : ℕ) → HasJournal im j d → head_in (ring_of (every im d)) ≡ None → Breaks im 16 d
  -- 17: a journal has a bad chunk; the block is that place's. A hole is no block: it breaks the eighth
  bad_chunk : (j d p : ℕ) (head : LogHeader) → HasJournal im j d → head_in (ring_of (every im d)) ≡ Some head
      → transactions_of (ring_of (every im d)) head ≡ Err p → content_block (every im d) p ≢ 0 → Breaks im 17 (content_block (every im d) p)
  -- 18: the list of groups is missing, has a part of an entry or more entries than the device has blocks, groups don't fit, rise or lie apart, or, where all do, a block above the superblock's, the first, is in none and isn't one of at most three behind one
  no_rindex : ((d : ℕ) → IsRindex im d → ⊥) → Breaks im 18 (master_of im)
  part_of_entry : (d : ℕ) → IsRindex im d → (dinode_in (every im d)).size % entry_length ≢ 0 → Breaks im 18 d
  too_many : (d : ℕ) → IsRindex im d → entry_length * im.count < (dinode_in (every im d)).size → Breaks im 18 d
  unfit : (d : ℕ) (g : Rindex) → IsRindex im d → IsListed (groups_in (content_of (every im d))) g → ¬ (GroupFits im g) → Breaks im 18 d
  not_rising : (d i j : ℕ) (g h : Rindex) → IsRindex im d → IsGroupAt (groups_in (content_of (every im d))) i g → IsGroupAt (groups_in (content_of (every im d))) j h
      → i < j → h.address < end_of g → Breaks im 18 d
  bare : (b : ℕ) (groups : List Rindex) → IsSoundList im groups → IsFirstBare im groups b → Breaks im 18 b
  -- 19: a dinode's `blocks` isn't the count
  blocks_count : (a : ℕ) (blocks : List ℕ) → HasInode im a → AreWithin im a blocks → (dinode_in (every im a)).blocks ≢ 1 + length blocks → Breaks im 19 a

-- What may be told of a block: it breaks the rule, and the device has it; but for a superblock for which the device is too short.
pub record IsBrokenBlock (im : Image) (rule b : ℕ) : Type 0 where
  pub breaks : Breaks im rule b
  pub there : (b < im.count) ⊎ ((rule ≡ 1) × (b ≡ superblock_place im.size))

-- A block to which a look over the image comes: the superblock's, one that is claimed, one of the content of an inode that is
-- claimed, one of a group of a whole list, and one above the superblock that no group of a sound list has and none leaves behind it.
pub data IsReached (im : Image) : ℕ → Type 0 where
  the_superblock : IsReached im (superblock_place im.size)
  by_claim : (by b : ℕ) (o : Owner) → Claims im by b o → IsReached im b
  of_content : (a i : ℕ) → HasInode im a → IsReached im (content_block (every im a) i)
  in_group : (g : Rindex) (b : ℕ) → HasSoundGroup im g → (b ≡ g.address) ⊎ (IsHeaderOf g b ⊎ IsDataOf g b) → IsReached im b
  left_out : (b : ℕ) (groups : List Rindex) → IsSoundList im groups → superblock_place im.size < b → ((g : Rindex) → IsListed groups g → ¬ (IsNear g b)) → IsReached im b
