-- What the system files say, as the code has it.
use Rattle.profile_limits.specs.Limits.{most_journals}
use Rattle.std.specs.Prelude.{ℕ, ◌≡◌, ◌≢◌, ◌⊎◌, ◌<◌, ◌≤◌, true, false, List, [], Contains, codes, length, map, slice_get, Some}
use Rattle.glock_names.specs.declared.steps.Entry.{Entry}
use Rattle.dinode_tree.specs.Reading.{IsRightDinode}
use Rattle.gfs2_layout.specs.Device.{superblock_place}
use Rattle.gfs2_layout.specs.Inode.{is_hashed_in}
use Rattle.gfs2_layout.specs.Records.{Record, is_dots}
use Rattle.image_model.specs.Claims.{every, LeadsTo, IsJindex, IsRindex, master_of}
use Rattle.image_model.specs.Image.{Image, superblock_in}
use Rattle.image_model.specs.Journals.{journal_name}
use Rattle.image_model.specs.Profile.{HasPlainMaster}
use Rattle.image_model.specs.Rules.{HasRecordIn, HasRecords}
use Rattle.image_model.specs.Stands.{Layout}
use Rattle.image_mount.specs.Found.{is_other, name_count, AreJournalNames, HasGroups, HasNames, IsReached}
use Rattle.image_mount.specs.Groups.{IsNamedIn}
use Rattle.image_mount.specs.Kept.{Kept}
use Rattle.image_mount.specs.Leaves.{HasReadDirectory, IsMasterIn}
use Rattle.image_mount.specs.Looks.{HasHeadedContent, HasSoundLeaves, HasTrueRecord, IsLookedAt, IsSoundDirectory, IsTableSized}
use Rattle.image_mount.specs.Marked.{HasKeptContent, IsKept}
use Rattle.image_mount.specs.Listing.{said, link_of, AreAllRecords, AreDistinct, IsDirectoryIn}
use Rattle.image_mount.specs.declared.master.Master.{Master}
use Rattle.image_mount.specs.declared.inodes.Inode.{Inode}
use Rattle.image_mount.specs.declared.listing.Link.{Link}
use Rattle.image_mount.specs.declared.listing.Named.{Named as Item}
use Rattle.image_mount.specs.declared.system.Groundwork.{Groundwork}
use Rattle.image_mount.specs.declared.system.System.{System}
use Rattle.image_mount.specs.declared.system.SystemFiles.{SystemFiles}

-- the record of a system file in the master directory
abbrev pub IsLinkOf : Image → List ℕ → Link → Type 0
IsLinkOf im name link = IsNamedIn im (master_of im) link.from name link.entry

-- these are all records of the directory: no name comes twice, and none is another than those of the system files
pub record ArePlainRecords (im : Image) (a : ℕ) (records : List Item) : Type 0 where
  pub all : AreAllRecords im a records
  pub distinct : AreDistinct (map said records)
  pub plain : (i : ℕ) (n : Item) → slice_get records i ≡ Some n → is_other (said n) ≡ false

-- the superblock, and the master directory's inode
pub record IsMasterOf (im : Image) (master : Master) : Type 0 where
  pub superblock : master.superblock ≡ superblock_in im
  pub inode : IsMasterIn im master.inode

-- these are all records of a hashed master directory, its table has its size, and they are right
pub record AreHashedNames (im : Image) (a : ℕ) (names : List Item) : Type 0 where
  pub plain : ArePlainRecords im a names
  pub sized : IsTableSized im a
  pub sound : IsSoundDirectory im a a
  pub leaves : HasSoundLeaves im a

-- these are the records of the master directory, where it is a hashed one
abbrev pub IsNamedBy : Image → Master → List Item → Type 0
IsNamedBy im master names = is_hashed_in (every im master.inode.block) ≡ true → AreHashedNames im master.inode.block names

-- the inode of the directory of journals, below the master directory
pub record IsJindexOf (im : Image) (master : ℕ) (inode : Inode) : Type 0 where
  pub directory : IsDirectoryIn im inode master
  pub master_is : master ≡ master_of im
  pub right : IsRightDinode (every im inode.block)
  pub is : IsJindex im inode.block

-- it is looked at once the groups are known
pub record IsJindexIn (im : Image) (master : ℕ) (inode : Inode) : Type 0 where
  pub of : IsJindexOf im master inode
  pub layout : Layout
  pub groups : HasGroups im layout
  pub layout_is : layout.jindex ≡ inode.block

-- the files that the master directory names, and it names no others
pub record AreFilesOf (im : Image) (files : SystemFiles) : Type 0 where
  pub rindex : IsLinkOf im (codes "rindex") files.rindex
  pub jindex : IsLinkOf im (codes "jindex") files.jindex
  pub plain : (x : ℕ) (r : Record) → HasRecordIn im (master_of im) x r → is_other r ≡ false
  pub others : (name : List ℕ) (d : ℕ) → LeadsTo im (master_of im) name d → (name ≡ codes "jindex") ⊎ (name ≡ codes "rindex")

-- one of these has this name and this entry
pub record IsAmong (items : List Item) (name : List ℕ) (entry : Entry) : Type 0 where
  pub index : ℕ
  pub item : Item
  pub there : slice_get items index ≡ Some item
  pub named : item.name.now ≡ name
  pub entry_is : item.entry ≡ entry

-- one of these has this name, and what it says is this
pub record IsLinkAmong (items : List Item) (name : List ℕ) (link : Link) : Type 0 where
  pub index : ℕ
  pub item : Item
  pub there : slice_get items index ≡ Some item
  pub named : item.name.now ≡ name
  pub link_is : link_of item ≡ link

abbrev pub AreAmong : List Item → List Link → Type 0
AreAmong items journals = (j : ℕ) (link : Link) → slice_get journals j ≡ Some link → IsLinkAmong items (journal_name j) link

-- none of these has the name
abbrev pub LacksName : List Item → List ℕ → Type 0
LacksName items name = (i : ℕ) (n : Item) → slice_get items i ≡ Some n → n.name.now ≢ name

-- those that lead on have the names of so many journals
abbrev pub AreNamesOf : List Record → ℕ → Type 0
AreNamesOf records n = (r : Record) → Contains records r → is_dots r.name ≡ false → (j : ℕ) × (j < n) × (r.name ≡ journal_name j)

-- these are the records of the directory, in another order
pub record AreRecordsAnew (im : Image) (a : ℕ) (records : List Record) : Type 0 where
  pub all : List Record
  pub has : HasRecords im a all
  pub count : name_count all ≡ name_count records
  pub there : (r : Record) → Contains all r → Contains records r
  pub other : (r : Record) → Contains records r → Contains all r

-- these are the journals' among the records: one to eight, and they have no others beside
pub record AreJournalsAmong (items : List Item) (journals : List Link) : Type 0 where
  pub some : 1 ≤ length journals
  pub few : length journals ≤ most_journals
  pub named : AreJournalNames (map said items) (length journals)
  pub each : AreAmong items journals

-- these are the journals that the directory in block a names
pub record AreJournalsOf (im : Image) (a : ℕ) (journals : List Link) : Type 0 where
  pub looked : IsLookedAt im a
  pub sound : IsSoundDirectory im a (master_of im)
  pub some : 1 ≤ length journals
  pub few : length journals ≤ most_journals
  pub named : (records : List Record) → HasRecords im a records → AreJournalNames records (length journals)
  pub each : (j : ℕ) (link : Link) → slice_get journals j ≡ Some link → IsNamedIn im a link.from (journal_name j) link.entry
  pub others : (name : List ℕ) (d : ℕ) → LeadsTo im a name d → (j : ℕ) × ((link : Link) × (slice_get journals j ≡ Some link) × (link.entry.addr ≡ d) × (name ≡ journal_name j))
  pub leaves : is_hashed_in (every im a) ≡ true → HasSoundLeaves im a

-- where the system files lie, but for the journals
abbrev pub layout_with : Groundwork → List ℕ → Layout
layout_with g journals = record {
  root = g.superblock.root.address;
  master = g.superblock.master.address;
  rindex = g.rindex;
  jindex = g.jindex.block;
  groups = g.groups.items;
  journals = journals;
}

-- the system files were looked at, as far as the directory of journals
pub record IsGroundOf (im : Image) (g : Groundwork) : Type 0 where
  pub superblock : g.superblock ≡ superblock_in im
  pub groups : (journals : List ℕ) → HasGroups im (layout_with g journals)
  pub master : HasPlainMaster im (layout_with g [])
  pub one_rindex : (d : ℕ) → IsRindex im d → d ≡ g.rindex
  pub one_jindex : (d : ℕ) → IsJindex im d → d ≡ g.jindex.block
  pub rindex_record : HasTrueRecord im g.superblock.master.address (codes "rindex") g.rindex
  pub jindex_record : HasTrueRecord im g.superblock.master.address (codes "jindex") g.jindex.block
  pub master_looked : IsLookedAt im g.superblock.master.address
  pub master_sound : IsSoundDirectory im g.superblock.master.address g.superblock.master.address
  pub master_leaves : is_hashed_in (every im g.superblock.master.address) ≡ true → HasSoundLeaves im g.superblock.master.address
  pub rindex_looked : IsLookedAt im g.rindex
  pub rindex_headed : HasHeadedContent im g.rindex
  pub master_reached : IsReached im g.superblock.master.address
  pub rindex_reached : IsReached im g.rindex
  pub jindex : IsJindexIn im g.superblock.master.address g.jindex

-- where the system files lie
abbrev pub layout_of : System → Layout
layout_of s = record {
  root = s.superblock.root.address;
  master = s.superblock.master.address;
  rindex = s.rindex;
  jindex = s.jindex;
  groups = s.groups.items;
  journals = map (λ (e : Link). e.entry.addr) s.journals.items;
}

-- the dinodes of the master directory, of the list of groups and of the directory of journals are kept
pub record HasDinodes (im : Image) (k : Kept) (s : System) : Type 0 where
  pub master : IsKept k (master_of im)
  pub rindex : IsKept k s.rindex
  pub jindex : IsKept k s.jindex

-- so is the superblock, and all content of the list of groups; and a directory that is a hashed one was read
pub record HasReadSystem (im : Image) (k : Kept) (s : System) : Type 0 where
  pub superblock : IsKept k (superblock_place im.size)
  pub master : is_hashed_in (every im s.superblock.master.address) ≡ true → HasReadDirectory im k s.superblock.master.address
  pub rindex : HasKeptContent k (every im s.rindex)
  pub jindex : is_hashed_in (every im s.jindex) ≡ true → HasReadDirectory im k s.jindex

-- the system files were looked at, as far as the journals' records
pub record IsSystemOf (im : Image) (s : System) : Type 0 where
  pub superblock : s.superblock ≡ superblock_in im
  pub names : HasNames im (layout_of s)
  pub master : HasPlainMaster im (layout_of s)
  pub one_rindex : (d : ℕ) → IsRindex im d → d ≡ s.rindex
  pub one_jindex : (d : ℕ) → IsJindex im d → d ≡ s.jindex
  pub rindex_record : HasTrueRecord im s.superblock.master.address (codes "rindex") s.rindex
  pub jindex_record : HasTrueRecord im s.superblock.master.address (codes "jindex") s.jindex
  pub master_looked : IsLookedAt im s.superblock.master.address
  pub master_sound : IsSoundDirectory im s.superblock.master.address s.superblock.master.address
  pub master_leaves : is_hashed_in (every im s.superblock.master.address) ≡ true → HasSoundLeaves im s.superblock.master.address
  pub rindex_looked : IsLookedAt im s.rindex
  pub rindex_headed : HasHeadedContent im s.rindex
  pub master_reached : IsReached im s.superblock.master.address
  pub rindex_reached : IsReached im s.rindex
  pub jindex_reached : IsReached im s.jindex
  pub journals : AreJournalsOf im s.jindex s.journals.items
