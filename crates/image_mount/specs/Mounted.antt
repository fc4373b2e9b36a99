-- What is told of an image that is mounted.
use Rattle.std.specs.Prelude.{ℕ, ◌≡◌, ◌<◌, ◌≤◌, ◌↔◌, IsTrue, List, Contains, length, map, slice_get, Some}
use Rattle.std.specs.List.{AllByRecursion, range_with_len}
use Rattle.glock_names.specs.Views.{AreGroups, end_of, group_of_entry}
use Rattle.glock_names.specs.declared.views.Group.{Group}
use Rattle.gfs2_layout.specs.Inode.{content_block}
use Rattle.log_layout.specs.Journal.{ring_of, head_in}
use Rattle.log_layout.specs.declared.log_header.LogHeader.{LogHeader}
use Rattle.gfs2_layout.specs.declared.superblock.SuperBlock.{SuperBlock}
use Rattle.image_model.specs.Claims.{every}
use Rattle.image_model.specs.Image.{Image, superblock_in}
use Rattle.image_model.specs.Owners.{Owners}
use Rattle.image_model.specs.Profile.{IsInProfile}
use Rattle.image_model.specs.Stands.{Layout, IsLaid, IsJournalAt}
use Rattle.image_model.specs.SystemFiles.{IsSystemBlock}
use Rattle.image_mount.specs.Found.{HasNames}
use Rattle.image_mount.specs.Looks.{IsLookedOver}
use Rattle.shared_disk.specs.Disk.{DiskState}

-- a journal: the block of its dinode, the block at each of its places, and its head
pub record Journal : Type 0 where
  pub dinode : ℕ
  pub blocks : List ℕ
  pub head : LogHeader

pub record MountedValue : Type 0 where
  pub superblock : SuperBlock
  pub groups : List Group
  pub journals : List Journal
  pub system : List ℕ

-- the journal whose dinode is in block d, as every block of the image tells it
pub record IsJournalOf (im : Image) (d : ℕ) (journal : Journal) : Type 0 where
  pub dinode : journal.dinode ≡ d
  pub blocks : journal.blocks ≡ map (content_block (every im d)) (range_with_len 0 (ring_of (every im d)).places)
  pub head : head_in (ring_of (every im d)) ≡ Some journal.head

-- What the image tells is what was mounted, and it is within the profile; and what was looked at is right.
pub record IsMounted (im : Image) (m : MountedValue) : Type 0 where
  pub layout : Layout
  pub found : HasNames im layout
  pub profile : IsInProfile im layout
  pub looked : IsLookedOver im layout
  pub superblock : m.superblock ≡ superblock_in im
  pub groups : m.groups ≡ map group_of_entry layout.groups
  pub count : length m.journals ≡ length layout.journals
  pub journals : (j d : ℕ) (journal : Journal) → IsJournalAt layout j d → slice_get m.journals j ≡ Some journal → IsJournalOf im d journal
  pub system : (b : ℕ) → Contains m.system b ↔ IsSystemBlock im b
  -- each of these blocks is on the device
  pub inside : (b : ℕ) → IsSystemBlock im b → b < im.count

-- the disk tells its blocks, and the image has what the disk has of each of these
pub record HasSameBlocks (s : DiskState) (blocks : List ℕ) (im : Image) : Type 0 where
  pub tells : IsTrue s.tells
  pub size : im.size ≡ s.size
  pub count : im.count ≡ s.count
  pub same : (b : ℕ) → Contains blocks b → im.at b ≡ s.block_at b

-- the image stands, and is one of the profile
pub record IsOfProfile (im : Image) : Type 0 where
  pub owners : Owners
  pub layout : Layout
  pub laid : IsLaid im owners layout
  pub profile : IsInProfile im layout

-- what is mounted has groups such as every view has, and each of them ends on the device
abbrev pub GroupsAreAsSeen : Type 0
GroupsAreAsSeen = (im : Image) (m : MountedValue) → IsMounted im m → AreGroups im.size m.groups × AllByRecursion (λ g. end_of g ≤ im.count) m.groups

-- an image that stands and was mounted stands by the root and the groups that mounting told
abbrev pub StandsAsMounted : Type 0
StandsAsMounted = (im : Image) (m : MountedValue) (o : Owners) (l : Layout) → IsMounted im m → IsLaid im o l
    → (m.superblock.root.address ≡ l.root) × (m.groups ≡ map group_of_entry l.groups)
