-- What mounting looked at in an image that it mounted, beside what it found there: the records by which the system files are found,
-- their dinodes and the sizes that these say, the way to their content, the records and leaves of the directories, and the blocks at
-- the places of journals.
use Rattle.std.specs.Prelude.{ℕ, zero, suc, ⊤, ◌≡◌, ◌≢◌, ◌+◌, ◌-◌, ◌*◌, ◌/◌, ◌%◌, ◌<◌, ◌≤◌, true, false, List, length, codes, Contains}
use Rattle.dinode_tree.specs.Reading.{IsHeadedAt, IsHeadedWay, IsRightDinode}
use Rattle.file_tree.specs.Names.{IsName}
use Rattle.gfs2_layout.specs.Exchanges.{directory_count}
use Rattle.gfs2_layout.specs.Holding.{Holding}
use Rattle.gfs2_layout.specs.Inode.{Leads, content_block, content_count, dinode_in, entry, head_of, header_length, height_in, index_bits, is_directory_in, is_hashed_in, leaf_in, pointer, span, table_count, IsLeaf}
use Rattle.log_layout.specs.Journal.{ring_of}
use Rattle.gfs2_layout.specs.Records.{Record, records_in, is_dots, IsRecordArea}
use Rattle.gfs2_layout.specs.Structures.{dinode_length}
use Rattle.gfs2_layout.specs.declared.rindex.Rindex.{Rindex}
use Rattle.glock_names.specs.declared.steps.Entry.{Entry}
use Rattle.image_model.specs.Claims.{every, Claims, HasArea}
use Rattle.image_model.specs.Groups.{IsDataOf, IsListed}
use Rattle.image_model.specs.Image.{Image}
use Rattle.image_model.specs.Journals.{journal_name}
use Rattle.image_model.specs.Owners.{Chained}
use Rattle.image_model.specs.Rules.{HasRecordIn, HasRecords}
use Rattle.image_model.specs.Stands.{Layout, IsJournalAt, IsRecordOf, kind_of}
use Rattle.image_mount.specs.Listing.{AreDistinct}

-- ---- records

-- what a record says of the inode to which it leads repeats the kind and the formal number of its dinode
pub record IsTrueEntry (im : Image) (entry : Entry) : Type 0 where
  pub kind : entry.kind ≡ kind_of (head_of (every im entry.addr))
  pub number : entry.number ≡ (head_of (every im entry.addr)).number

-- the directory in block a has one record of this name, and it is that of the inode in block d
pub record HasTrueRecord (im : Image) (a : ℕ) (name : List ℕ) (d : ℕ) : Type 0 where
  pub block : ℕ
  pub row : Record
  pub there : HasRecordIn im a block row
  pub named : row.name ≡ name
  pub one : (x : ℕ) (r : Record) → HasRecordIn im a x r → r.name ≡ name → r ≡ row
  pub true_of : IsRecordOf (λ b. head_of (every im b)) d row

-- ---- sizes

-- the records of a linear directory stand behind its dinode up to the end of the block
pub record IsLinearSized (im : Image) (a : ℕ) : Type 0 where
  pub height : height_in (every im a) ≡ 0
  pub size : dinode_length + (dinode_in (every im a)).size ≡ im.size

-- the table of a hashed directory has so many pointers as it may have, and the size is theirs
pub record IsTableSized (im : Image) (a : ℕ) : Type 0 where
  pub least : im.size / 16 ≤ table_count (every im a)
  pub greatest : table_count (every im a) ≤ 8 * im.size
  pub size : (dinode_in (every im a)).size ≡ 8 * table_count (every im a)

-- the inode, where it is a directory, has the size of one
pub record IsSized (im : Image) (a : ℕ) : Type 0 where
  pub linear : is_directory_in (every im a) ≡ true → is_hashed_in (every im a) ≡ false → IsLinearSized im a
  pub hashed : is_hashed_in (every im a) ≡ true → IsTableSized im a

-- its dinode is right, too: header, address, number, mode, and content that fits
pub record IsLookedAt (im : Image) (a : ℕ) : Type 0 where
  pub dinode : IsRightDinode (every im a)
  pub sized : IsSized im a

-- ---- the way to content

-- the blocks on the way to each block of content have their headers, and so has each block of a directory's table
abbrev pub HasHeadedContent : Image → ℕ → Type 0
HasHeadedContent im a = (i : ℕ) → i < content_count (every im a) → IsHeadedAt (every im a) i

-- ---- the records of a directory

-- the records of an area fill it and have the hashes of their names, each is `.`, `..` or has a name, and no name comes twice
pub record IsSoundArea (area : List ℕ) : Type 0 where
  pub filled : IsRecordArea area
  pub names : (r : Record) → Contains (records_in area) r → is_dots r.name ≡ false → IsName r.name
  pub once : AreDistinct (records_in area)

-- the directory in block a has a record of this name, which leads to block b
pub record HasDot (im : Image) (a : ℕ) (name : List ℕ) (b : ℕ) : Type 0 where
  pub block : ℕ
  pub row : Record
  pub there : HasRecordIn im a block row
  pub named : row.name ≡ name
  pub leads : row.address ≡ b

-- the entries and links that its dinode says are the count of its records
pub record IsCounted (im : Image) (a : ℕ) : Type 0 where
  pub records : List Record
  pub are : HasRecords im a records
  pub entries : (dinode_in (every im a)).entries ≡ length records
  pub links : (dinode_in (every im a)).nlink ≡ 2 + directory_count records

-- the records of the directory in block a, which stands in the one in block `parent`
pub record IsSoundDirectory (im : Image) (a parent : ℕ) : Type 0 where
  pub areas : (x : ℕ) (area : List ℕ) → HasArea im a x area → IsSoundArea area
  pub once : (x y : ℕ) (r s : Record) → HasRecordIn im a x r → HasRecordIn im a y s → r.name ≡ s.name → x ≡ y
  pub dot : HasDot im a (codes ".") a
  pub dots : HasDot im a (codes "..") parent
  pub counts : IsCounted im a

-- ---- the table and the leaves of a hashed directory

-- the hashes of pointer j have the top bits of those of pointer i, as many as the leaf of that one is deep
abbrev pub IsInRun : Holding → ℕ → ℕ → Type 0
IsInRun h i j = index_bits h (leaf_in h (entry h i)).depth j ≡ index_bits h (leaf_in h (entry h i)).depth i

-- pointer i leads to a leaf, and so does its whole run
pub record LeadsToLeaf (h : Holding) (i : ℕ) : Type 0 where
  pub some : entry h i ≢ 0
  pub run : (j : ℕ) → j < table_count h → IsInRun h i j → entry h j ≡ entry h i

pub record HasSoundLeaves (im : Image) (a : ℕ) : Type 0 where
  pub table : HasHeadedContent im a
  pub pointers : (i : ℕ) → i < table_count (every im a) → LeadsToLeaf (every im a) i
  pub leaves : (by x hash place : ℕ) → Claims im by x (Chained a hash place) → IsLeaf (every im a) hash x
  -- along a chain the depth is one
  pub depths : (by x hash place : ℕ) → Claims im by x (Chained a hash place) → (leaf_in (every im a) x).next ≢ 0
      → (leaf_in (every im a) (leaf_in (every im a) x).next).depth ≡ (leaf_in (every im a) x).depth
  -- no leaf is come to twice
  pub once : (by by' x hash hash' place place' : ℕ) → Claims im by x (Chained a hash place) → Claims im by' x (Chained a hash' place') → (hash ≡ hash') × (place ≡ place')

-- ---- places of journals

-- the block is a data block of one of these groups
abbrev pub IsInGroups : List Rindex → ℕ → Type 0
IsInGroups groups b = (g : Rindex) × IsListed groups g × IsDataOf g b

-- block b is at place p of the journal of this number
pub record IsPlaceOf (im : Image) (l : Layout) (j p b : ℕ) : Type 0 where
  pub dinode : ℕ
  pub at : IsJournalAt l j dinode
  pub low : p < (ring_of (every im dinode)).places
  pub is : content_block (every im dinode) p ≡ b

-- block b is none of the indirect blocks from block c down, so many levels, to the block of content with index i below it
abbrev pub IsOffDown : ℕ → Holding → ℕ → ℕ → ℕ → Type 0
IsOffDown b h zero c i = ⊤
IsOffDown b h (suc level) c i = (c ≢ b) × IsOffDown b h level (pointer h header_length c (i / span h.size level)) (i % span h.size level)

-- nor of those on the way from the dinode to the block of content with index i
abbrev pub IsOffWay : ℕ → Holding → ℕ → Type 0
IsOffWay b h i =
    let level = height_in h - 1 in
    IsOffDown b h level (pointer h dinode_length h.own (i / span h.size level)) (i % span h.size level)

-- the block has the dinode of the master directory, of `rindex`, of `jindex` or of a journal
pub data IsSystemDinode (l : Layout) : ℕ → Type 0 where
  of_master : IsSystemDinode l l.master
  of_rindex : IsSystemDinode l l.rindex
  of_jindex : IsSystemDinode l l.jindex
  of_journal : (j d : ℕ) → IsJournalAt l j d → IsSystemDinode l d

-- the inode in block d is the master directory, the list of groups or the directory of journals
pub data IsListing (l : Layout) : ℕ → Type 0 where
  the_master : IsListing l l.master
  the_rindex : IsListing l l.rindex
  the_jindex : IsListing l l.jindex

-- Block b is one by which such a file is read, below its dinode: a block to which a pointer leads before the file's end, or a leaf.
pub data IsListingBlock (im : Image) (l : Layout) (b : ℕ) : Type 0 where
  led_to : (d p k level first : ℕ) → IsListing l d → Leads (every im d) p k level first b → first < content_count (every im d) → IsListingBlock im l b
  a_leaf : (d by hash place : ℕ) → IsListing l d → Claims im by b (Chained d hash place) → IsListingBlock im l b

-- ---- all of it

pub record IsLookedOver (im : Image) (l : Layout) : Type 0 where
  -- the records by which mounting goes on are true of their dinodes
  pub rindex_record : HasTrueRecord im l.master (codes "rindex") l.rindex
  pub jindex_record : HasTrueRecord im l.master (codes "jindex") l.jindex
  pub journal_records : (j d : ℕ) → IsJournalAt l j d → HasTrueRecord im l.jindex (journal_name j) d
  -- the dinodes are right, directories have their sizes, and a journal is whole blocks
  pub master : IsLookedAt im l.master
  pub rindex : IsLookedAt im l.rindex
  pub jindex : IsLookedAt im l.jindex
  pub journals : (j d : ℕ) → IsJournalAt l j d → IsLookedAt im d
  pub whole : (j d : ℕ) → IsJournalAt l j d → (dinode_in (every im d)).size % im.size ≡ 0
  -- the blocks on the way to the list of groups have their headers
  pub list : HasHeadedContent im l.rindex
  -- the records of the two directories are right
  pub master_records : IsSoundDirectory im l.master l.master
  pub jindex_records : IsSoundDirectory im l.jindex l.master
  -- so are the table and the leaves of each of them that is a hashed one
  pub master_leaves : is_hashed_in (every im l.master) ≡ true → HasSoundLeaves im l.master
  pub jindex_leaves : is_hashed_in (every im l.jindex) ≡ true → HasSoundLeaves im l.jindex
  -- no journal is the master directory, the list of groups or the directory of journals
  pub own : (j d : ℕ) → IsJournalAt l j d → (d ≢ l.master) × (d ≢ l.rindex) × (d ≢ l.jindex)
  -- each place of a journal has a data block of a group, and no block is at two places
  pub places : (j p b : ℕ) → IsPlaceOf im l j p b → IsInGroups l.groups b
  pub apart : (j i p q b : ℕ) → IsPlaceOf im l j p b → IsPlaceOf im l i q b → (j ≡ i) × (p ≡ q)
  -- the blocks of pointers on the way to it have their headers
  pub ways : (j d p : ℕ) → IsJournalAt l j d → p < (ring_of (every im d)).places → IsHeadedWay (every im d) p
  -- no block of pointers on the way to a place of a journal is at one
  pub clear : (j p b : ℕ) → IsPlaceOf im l j p b → (i d q : ℕ) → IsJournalAt l i d → q < (ring_of (every im d)).places → IsOffWay b (every im d) q
  -- nor is a dinode of these files
  pub beside : (j p b : ℕ) → IsPlaceOf im l j p b → ¬ (IsSystemDinode l b)
  -- nor a block of the content of the list of groups or of a directory's table, nor one on the way to these, nor a leaf
  pub listings : (j p b : ℕ) → IsPlaceOf im l j p b → ¬ (IsListingBlock im l b)
