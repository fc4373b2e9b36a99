-- What mounting finds in an image, in the order in which it looks. Everything is read as it lies, from an image that may be right or wrong.
use Rattle.std.specs.Prelude.{ℕ, ◌≡◌, ◌≢◌, ◌⊎◌, ◌+◌, ◌%◌, ◌^◌, ◌<◌, ◌≤◌, ◌&&◌, ◌||◌, not, Bool, false, List, length, codes, count_by, find, Contains, Option, None, Some}
use Rattle.profile_limits.specs.Limits.{most_blocks, most_group_blocks, most_groups, most_journals}
use Rattle.std.specs.Str.{bytes_eq}
use Rattle.gfs2_layout.specs.Device.{superblock_place}
use Rattle.gfs2_layout.specs.Headers.{HasHeader}
use Rattle.gfs2_layout.specs.Holding.{Holding}
use Rattle.gfs2_layout.specs.Inode.{dinode_in, content_of, is_hashed_in, linear_area, leaf_area, leaf_in, table_count, entry}
use Rattle.gfs2_layout.specs.Records.{Record, records_in, is_dots}
use Rattle.image_model.specs.Claims.{every, HasDirectory, LeadsTo, IsRindex, IsJindex}
use Rattle.image_model.specs.Groups.{entry_length, groups_in, GroupsFit}
use Rattle.image_model.specs.Image.{Image, superblock_in}
use Rattle.image_model.specs.Journals.{journal_name}
use Rattle.image_model.specs.Profile.{group_length}
use Rattle.image_model.specs.Rules.{HasRecordIn, HasRecords, IsHashedAt}
use Rattle.image_model.specs.Stands.{Layout, IsJournalAt}
use Rattle.image_model.specs.SystemFiles.{IsSystemBlock}

-- ---- the device and the superblock

pub record HasSuper (im : Image) : Type 0 where
  pub few : im.count ≤ most_blocks
  pub inside : superblock_place im.size < im.count
  pub whole : length (im.at (superblock_place im.size)) ≡ im.size
  pub header : HasHeader 1 100 (im.at (superblock_place im.size))

pub record HasFormat (im : Image) : Type 0 where
  pub super : HasSuper im
  pub fs_format : (superblock_in im).fs_format ≡ 1801
  pub multihost_format : (superblock_in im).multihost_format ≡ 1900
  pub bsize : (superblock_in im).bsize ≡ im.size
  pub bsize_shift : 2 ^ (superblock_in im).bsize_shift ≡ im.size

-- A block that mounting may read: the device has it, and it is one of the system files, or one by which they are found. Behind the superblock
-- none is read but where the formats are those of the profile.
pub record IsReached (im : Image) (b : ℕ) : Type 0 where
  pub inside : b < im.count
  pub system : IsSystemBlock im b
  pub format : (b ≡ superblock_place im.size) ⊎ HasFormat im

-- ---- the master directory, linear or hashed: `jindex` and `rindex`, and no other name

abbrev pub is_system_name : List ℕ → Bool
is_system_name name = bytes_eq name (codes "jindex") || bytes_eq name (codes "rindex")

-- the record has a name of its own, and it is none of the two
abbrev pub is_other : Record → Bool
is_other r = not (is_dots r.name) && not (is_system_name r.name)

abbrev pub first_other : List Record → Option Record
first_other records = find is_other records

-- Block x is the leaf so many behind the one to which pointer i of the table leads; a pointer that is zero leads to none. In this order a hashed directory has
-- its leaves: pointer by pointer, and each chain from its first leaf on.
pub data IsInChain (h : Holding) (i : ℕ) : ℕ → ℕ → Type 0 where
  chain_head : i < table_count h → entry h i ≢ 0 → IsInChain h i 0 (entry h i)
  chain_next : (place x : ℕ) → IsInChain h i place x → (leaf_in h x).next ≢ 0 → IsInChain h i (place + 1) (leaf_in h x).next

-- what comes so far behind pointer j comes before what comes so far behind pointer i
abbrev pub ComesBefore : ℕ → ℕ → ℕ → ℕ → Type 0
ComesBefore j earlier i place = (j < i) ⊎ ((j ≡ i) × (earlier < place))

-- the first record of a directory that has another name
pub data IsFirstOther (im : Image) (a : ℕ) : Record → Type 0 where
  behind_dinode : (r : Record) → HasDirectory im a → is_hashed_in (every im a) ≡ false → first_other (records_in (linear_area (every im a))) ≡ Some r
      → IsFirstOther im a r
  in_leaf : (i place x : ℕ) (r : Record) → IsHashedAt im a → IsInChain (every im a) i place x → first_other (records_in (leaf_area (every im a) x)) ≡ Some r
      → ((j earlier y : ℕ) → ComesBefore j earlier i place → IsInChain (every im a) j earlier y → first_other (records_in (leaf_area (every im a) y)) ≡ None)
      → IsFirstOther im a r

pub record HasMaster (im : Image) (l : Layout) : Type 0 where
  pub format : HasFormat im
  pub root : (superblock_in im).root.address ≡ l.root
  pub master : (superblock_in im).master.address ≡ l.master
  pub plain : (x : ℕ) (r : Record) → HasRecordIn im l.master x r → is_other r ≡ false
  pub rindex : IsRindex im l.rindex
  pub jindex : IsJindex im l.jindex

-- ---- the list of groups

-- the entries in the content of `rindex`, which is whole entries
pub record HasList (im : Image) (l : Layout) : Type 0 where
  pub master : HasMaster im l
  pub whole : (dinode_in (every im l.rindex)).size % entry_length ≡ 0
  pub listed : groups_in (content_of (every im l.rindex)) ≡ l.groups

pub record HasGroups (im : Image) (l : Layout) : Type 0 where
  pub list : HasList im l
  pub some : 1 ≤ length l.groups
  pub few : length l.groups ≤ most_groups
  pub fit : GroupsFit im l.groups
  pub short : group_length l.groups ≤ most_group_blocks

-- ---- the journals

-- how many names these records have beside `.` and `..`
abbrev pub name_count : List Record → ℕ
name_count records = count_by (λ r. not (is_dots r.name)) records

-- the names of so many journals, and no others
abbrev pub AreJournalNames : List Record → ℕ → Type 0
AreJournalNames records n =
    (name_count records ≡ n)
    × ((j : ℕ) → j < n → (r : Record) × Contains records r × (r.name ≡ journal_name j))
    × ((r : Record) → Contains records r → is_dots r.name ≡ false → (j : ℕ) × (j < n) × (r.name ≡ journal_name j))

pub record HasNames (im : Image) (l : Layout) : Type 0 where
  pub groups : HasGroups im l
  pub some : 1 ≤ length l.journals
  pub few : length l.journals ≤ most_journals
  pub named : (records : List Record) → HasRecords im l.jindex records → AreJournalNames records (length l.journals)
  pub there : (j d : ℕ) → IsJournalAt l j d → LeadsTo im l.jindex (journal_name j) d
