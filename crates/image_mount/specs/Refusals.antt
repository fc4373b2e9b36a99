-- Why an image is not mounted.
use Rattle.std.specs.Prelude.{ℕ, ◌≡◌, ◌≢◌, ◌⊎◌, ⊤, ◌/◌, ◌%◌, ◌^◌, ◌<◌, ◌≤◌, List, length, Some}
use Rattle.profile_limits.specs.Limits.{least_journal_blocks, most_blocks, most_group_blocks, most_groups, most_journal_blocks, most_journals}
use Rattle.fault_counts.specs.Causes.{WentUp}
use Rattle.gfs2_layout.specs.Device.{superblock_place}
use Rattle.gfs2_layout.specs.Headers.{HasHeader}
use Rattle.gfs2_layout.specs.Inode.{dinode_in}
use Rattle.log_layout.specs.Journal.{ring_of, head_in}
use Rattle.gfs2_layout.specs.Records.{Record}
use Rattle.gfs2_layout.specs.declared.rindex.Rindex.{Rindex}
use Rattle.log_layout.specs.declared.log_header.LogHeader.{LogHeader}
use Rattle.image_model.specs.Claims.{every, master_of}
use Rattle.image_model.specs.Groups.{entry_length, end_of, GroupFits, GroupsFit, IsGroupAt, IsListed, IsNear}
use Rattle.image_model.specs.Image.{Image, superblock_in}
use Rattle.image_model.specs.Profile.{group_length}
use Rattle.image_model.specs.Rules.{IsBrokenBlock, HasRecords}
use Rattle.image_model.specs.Stands.{Layout, IsJournalAt}
use Rattle.dinode_tree.specs.Reading.{IsRightDinode}
use Rattle.image_mount.specs.Looks.{IsLookedAt}
use Rattle.image_mount.specs.Found.{HasSuper, HasFormat, IsFirstOther, HasList, HasMaster, HasGroups, name_count, AreJournalNames, HasNames, IsReached}
use Rattle.image_reader.specs.declared.image.ImageFault.{ImageFault}
use Rattle.image_reader.specs.declared.image.ImageFault.TheVariants as image
use Rattle.image_mount.specs.declared.field.Field.{Field}
use Rattle.image_mount.specs.declared.field.Field.TheVariants as field
use Rattle.image_mount.specs.declared.fault.MountFault.{MountFault}
use Rattle.image_mount.specs.declared.fault.MountFault.TheVariants as fault

-- how many blocks the journal with its dinode in block d has is within
abbrev pub IsJournalSized : Image → ℕ → Type 0
IsJournalSized im d = (least_journal_blocks ≤ (ring_of (every im d)).places) × ((ring_of (every im d)).places ≤ most_journal_blocks)

-- so is the sequence of its head
pub record HasLowHead (im : Image) (d : ℕ) : Type 0 where
  pub head : LogHeader
  pub is : head_in (ring_of (every im d)) ≡ Some head
  pub low : head.sequence < 2 ^ 63

-- A field in which the image is outside the profile, with what it says there. Mounting looks at the fields in this order, so
-- each is told only where those before it are within. It looks how many blocks each journal in turn has, and then at each
-- head in turn. Before it reads a field in a file it looks at the file's dinode, and whether a directory has the size of one.
pub data IsOutside (im : Image) : Field → ℕ → Type 0 where
  device : most_blocks < im.count → IsOutside im field.Device im.count
  fs_format : HasSuper im → (superblock_in im).fs_format ≢ 1801 → IsOutside im field.FsFormat (superblock_in im).fs_format
  multihost_format : HasSuper im → (superblock_in im).fs_format ≡ 1801 → (superblock_in im).multihost_format ≢ 1900
      → IsOutside im field.MultihostFormat (superblock_in im).multihost_format
  bsize : HasSuper im → (superblock_in im).fs_format ≡ 1801 → (superblock_in im).multihost_format ≡ 1900 → (superblock_in im).bsize ≢ im.size
      → IsOutside im field.Bsize (superblock_in im).bsize
  bsize_shift : HasSuper im → (superblock_in im).fs_format ≡ 1801 → (superblock_in im).multihost_format ≡ 1900 → (superblock_in im).bsize ≡ im.size
      → 2 ^ (superblock_in im).bsize_shift ≢ im.size → IsOutside im field.BsizeShift (superblock_in im).bsize_shift
  -- the first record in the master directory that is neither `jindex` nor `rindex`, by its block
  master : (r : Record) → HasFormat im → IsLookedAt im (master_of im) → IsFirstOther im (master_of im) r → IsOutside im field.Master r.address
  -- how many groups are listed, by the size of their list
  groups : (l : Layout) → HasMaster im l → IsRightDinode (every im l.rindex) → (dinode_in (every im l.rindex)).size % entry_length ≡ 0
      → ((dinode_in (every im l.rindex)).size / entry_length ≡ 0) ⊎ (most_groups < (dinode_in (every im l.rindex)).size / entry_length)
      → IsOutside im field.Groups ((dinode_in (every im l.rindex)).size / entry_length)
  -- how many blocks of headers and bitmaps the groups have
  group_blocks : (l : Layout) → HasList im l → IsLookedAt im l.rindex → 1 ≤ length l.groups → length l.groups ≤ most_groups → GroupsFit im l.groups → most_group_blocks < group_length l.groups
      → IsOutside im field.GroupBlocks (group_length l.groups)
  -- how many names `jindex` has, where they aren't those of one to eight journals
  journals : (l : Layout) (records : List Record) → HasGroups im l → IsLookedAt im l.jindex → HasRecords im l.jindex records
      → ((1 ≤ name_count records) × (name_count records ≤ most_journals) × AreJournalNames records (name_count records) → ⊥) → IsOutside im field.Journals (name_count records)
  -- how many blocks a journal has
  journal : (l : Layout) (j d : ℕ) → HasNames im l → ((i c : ℕ) → i < j → IsJournalAt l i c → IsJournalSized im c) → IsJournalAt l j d → IsLookedAt im d → (dinode_in (every im d)).size % im.size ≡ 0 → (IsJournalSized im d → ⊥)
      → IsOutside im field.Journal (ring_of (every im d)).places
  -- the sequence of a journal's head
  sequence : (l : Layout) (j d : ℕ) (head : LogHeader) → HasNames im l → ((i c : ℕ) → IsJournalAt l i c → IsJournalSized im c) → ((i c : ℕ) → i < j → IsJournalAt l i c → HasLowHead im c)
      → IsJournalAt l j d → IsLookedAt im d → (dinode_in (every im d)).size % im.size ≡ 0 → head_in (ring_of (every im d)) ≡ Some head → 2 ^ 63 ≤ head.sequence → IsOutside im field.Sequence head.sequence

-- the superblock isn't one, on a device that has no more blocks than are mounted: it is too short for it, or its block lacks the header
pub record LacksSuper (im : Image) : Type 0 where
  pub few : im.count ≤ most_blocks
  pub lacks : (im.count ≤ superblock_place im.size) ⊎ ¬ (HasHeader 1 100 (im.at (superblock_place im.size)))

-- The first block of the device above the superblock that is near no group: some are listed, and they fit and rise without overlapping.
pub record IsFirstBare (im : Image) (b : ℕ) : Type 0 where
  pub layout : Layout
  pub listed : HasList im layout
  pub some : 1 ≤ length layout.groups
  pub few : length layout.groups ≤ most_groups
  pub fit : (g : Rindex) → IsListed layout.groups g → GroupFits im g
  pub rise : (i j : ℕ) (g h : Rindex) → IsGroupAt layout.groups i g → IsGroupAt layout.groups j h → i < j → end_of g ≤ h.address
  pub above : superblock_place im.size < b
  pub inside : b < im.count
  pub bare : (g : Rindex) → IsListed layout.groups g → ¬ (IsNear g b)
  pub first : (c : ℕ) → superblock_place im.size < c → c < b → (g : Rindex) × IsListed layout.groups g × IsNear g c

-- Where a broken rule is told: at a superblock that isn't one; at a block to which mounting comes, where the formats are those of the profile; or at
-- the first block that no group has and none leaves behind it, which isn't read.
pub data IsToldAt (im : Image) : ℕ → ℕ → Type 0 where
  no_super : LacksSuper im → IsToldAt im 1 (superblock_place im.size)
  come_to : (rule b : ℕ) → HasFormat im → IsReached im b → IsToldAt im rule b
  first_bare : (b : ℕ) → IsFirstBare im b → IsToldAt im 18 b

-- The cause of each refusal in the image.
abbrev pub RefusesRightly : Image → MountFault → Type 0
RefusesRightly im (fault.NotProfile what value) = IsOutside im what value
RefusesRightly im (fault.Damaged block rule) = IsBrokenBlock im rule block × IsToldAt im rule block
RefusesRightly im (fault.DeviceFault block before after) = IsReached im block
RefusesRightly im fault.NoMemory = ⊤

-- what breaks a rule of an image, as mounting tells it
abbrev pub of_image : ImageFault → MountFault
of_image (image.Damaged block rule) = fault.Damaged block rule
of_image image.NoMemory = fault.NoMemory

-- a fault of the disk is told only where the disk's count for the run's own calls rose so
abbrev pub HasRisen : (ℕ → ℕ) → (ℕ → ℕ) → MountFault → Type 0
HasRisen before now (fault.DeviceFault block x y) = WentUp (before 0) (now 0) x y
HasRisen before now _ = ⊤

-- it is told at a block of the device, which has so many
abbrev pub LiesWithin : ℕ → MountFault → Type 0
LiesWithin count (fault.DeviceFault block x y) = block < count
LiesWithin count _ = ⊤

-- the disk failed, or there was no memory
abbrev pub IsExcused : MountFault → Type 0
IsExcused (fault.DeviceFault block before after) = ⊤
IsExcused fault.NoMemory = ⊤
IsExcused _ = ⊥
