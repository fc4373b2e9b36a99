-- What a change of few blocks is, of an image that stands: its inodes are touched, or as before.
use Rattle.std.specs.Prelude.{ℕ, ◌≡◌, ◌⊎◌, ◌<◌, ◌≤◌, ◌==◌, Bool, true, false, if◌then◌else◌, List, length, Option, None, Some}
use Rattle.std.specs.List.{list_any}
use Rattle.file_tree.specs.Apply.{file_limit}
use Rattle.gfs2_layout.specs.Device.{superblock_place}
use Rattle.gfs2_layout.specs.declared.rindex.Rindex.{Rindex}
use Rattle.gfs2_layout.specs.Inode.{IsInode, dinode_in, is_directory_in, records_of}
use Rattle.image_model.specs.Flat.{Path, follow}
use Rattle.glock_names.specs.declared.LockName.{LockName}
use Rattle.image_model.specs.Groups.{IsListed, IsDataOf, group_blocks, states_of, state_of, IsGroup}
use Rattle.image_model.specs.Image.{Image}
use Rattle.image_model.specs.Owners.{Owner, Owners, InGroup, Free, Root, Master, Named, Below, Chained, Up, up_of, is_dinode, IsWithin, holding}
use Rattle.image_model.specs.Stands.{Layout, IsJournalAt, flat_of, heads_of, IsDirectory, IsFound}

-- ---- blocks

-- the inode of which the block is one
abbrev pub inode_of : ℕ → Owner → Option ℕ
inode_of b Root = Some b
inode_of b Master = Some b
inode_of b (Named parent name) = Some b
inode_of b (Below a parent k level first) = Some a
inode_of b (Chained a hash place) = Some a
inode_of b _ = None

-- a block of this owner is a free one, or one of these inodes'
abbrev pub IsOf : (ℕ → Bool) → ℕ → Owner → Type 0
IsOf touched b (Free g) = Unit {0}
IsOf touched b o = (a : ℕ) × (inode_of b o ≡ Some a) × (touched a ≡ true)

-- What becomes of a block: it is as before; it has another part in a touched inode; it is written, and stays a group's header or
-- bitmap; or it is written or freed, and goes from the free blocks or a touched inode to the free blocks or a touched inode.
pub data Becomes (touched altered written : ℕ → Bool) (b : ℕ) (o o' : Owner) (bytes bytes' : List ℕ) : Type 0 where
  kept : o' ≡ o → bytes' ≡ bytes → Becomes touched altered written b o o' bytes bytes'
  another_part : (a : ℕ) → touched a ≡ true → inode_of b o ≡ Some a → inode_of b o' ≡ Some a → bytes' ≡ bytes → Becomes touched altered written b o o' bytes bytes'
  of_group : (g : ℕ) → altered g ≡ true → written b ≡ true → o ≡ InGroup g → o' ≡ InGroup g → Becomes touched altered written b o o' bytes bytes'
  changed : written b ≡ true → IsOf touched b o → IsOf touched b o' → Becomes touched altered written b o o' bytes bytes'

-- The blocks of an image change, and with them the table of owners: none but what is written or freed, and rows of touched inodes.
-- What is written is whole; what is freed is its own group's. An altered group says what the table does afterwards, and each other
-- group's blocks keep their states. Each touched inode that is there is sound, no block is one of an inode that isn't there, and an
-- inode that stays keeps its number and kind.
pub record IsChange (im im' : Image) (o o' : Owners) (l : Layout) (touched written : ℕ → Bool) : Type 0 where
  pub altered : ℕ → Bool  -- groups, by the blocks of their headers
  pub size : im'.size ≡ im.size
  pub count : im'.count ≡ im.count
  pub blocks : (b : ℕ) → Becomes touched altered written b (o b) (o' b) (im.at b) (im'.at b)
  pub whole : (b : ℕ) → written b ≡ true → b < im.count → length (im'.at b) ≡ im.size
  pub freed : (b x : ℕ) → written b ≡ true → o' b ≡ Free x → (g : Rindex) × IsListed l.groups g × IsDataOf g b × (x ≡ g.address)
  pub groups : (g : Rindex) → IsListed l.groups g → altered g.address ≡ true → IsGroup g (group_blocks im'.at g) (states_of o' g)
  pub states : (g : Rindex) (b : ℕ) → IsListed l.groups g → altered g.address ≡ false → IsDataOf g b → state_of (o' b) ≡ state_of (o b)
  pub inodes : (a : ℕ) → touched a ≡ true → is_dinode (o' a) ≡ true → IsInode (holding im' o' a)
  pub within : (b a : ℕ) → touched a ≡ true → IsWithin a (o' b) → is_dinode (o' a) ≡ true
  pub heads : (a : ℕ) → touched a ≡ true → is_dinode (o a) ≡ true → is_dinode (o' a) ≡ true → heads_of im' o' a ≡ heads_of im o a

-- ---- names

-- What is owed besides of the touched inodes, none of which is a system file: directories and the names in them are right, and
-- each inode is found.
pub record KeepsNames (im im' : Image) (o o' : Owners) (l : Layout) (touched : ℕ → Bool) : Type 0 where
  pub system : (path : Path) (a : ℕ) → follow (flat_of im o) l.master path ≡ Some a → touched a ≡ false
  pub root : o' l.root ≡ Root
  -- a name in an inode that isn't touched leads where it led
  pub rows : (b p : ℕ) (name : List ℕ) → touched p ≡ false → (o b ≡ Named p name) ⊎ (o' b ≡ Named p name) → o' b ≡ o b
  pub directories : (a : ℕ) → touched a ≡ true → is_dinode (o' a) ≡ true → is_directory_in (holding im' o' a) ≡ true
      → IsDirectory (heads_of im' o') o' a (records_of (holding im' o' a)) (dinode_in (holding im' o' a))
  pub names : (a : ℕ) (u : Up) → touched u.parent ≡ true → up_of (o' a) ≡ Some u → (flat_of im' o' u.parent).child u.name ≡ Some a
  pub found : (a : ℕ) → is_dinode (o' a) ≡ true → IsFound (flat_of im' o') l a
  pub short : (a : ℕ) → touched a ≡ true → is_dinode (o' a) ≡ true → is_directory_in (holding im' o' a) ≡ false → (dinode_in (holding im' o' a)).size ≤ file_limit

-- ---- where blocks belong

-- the lock that covers an inode's blocks: that of its dinode; those of a journal are their node's, and no lock covers them
abbrev pub inode_lock : Layout → ℕ → Option LockName
inode_lock l a = if list_any (λ d. d == a) l.journals then None else Some (record { kind = 2; number = a })

abbrev pub lock_in : Layout → Option ℕ → Option LockName
lock_in l None = None
lock_in l (Some a) = inode_lock l a

-- the lock that covers a block, by its owner: an inode's, or its group's; the superblock's and blocks of nobody have none
abbrev pub cover : Layout → ℕ → Owner → Option LockName
cover l b (InGroup g) = Some (record { kind = 3; number = g })
cover l b (Free g) = Some (record { kind = 3; number = g })
cover l b o = lock_in l (inode_of b o)

abbrev pub is_free : Owner → Bool
is_free (Free g) = true
is_free _ = false

-- where a block belongs: under which lock, and whether it is a free block of a group
pub record Place : Type 0 where
  pub lock : Option LockName
  pub free : Bool

abbrev pub place_of : Layout → Owners → ℕ → Place
place_of l o b = record { lock = cover l b (o b); free = is_free (o b) }

-- the block is a place of a journal's ring: one of its blocks of content
abbrev pub IsRingPlace : Owners → Layout → ℕ → Type 0
IsRingPlace o l b = (j d above k first : ℕ) × IsJournalAt l j d × (o b ≡ Below d above k 0 first)

-- What mounting reads is as it was: the device has its blocks, the superblock has its bytes, the master directory and each inode found
-- from it stand where they stood and have what they had, the journals among them, and the places of the journals' rings are the same.
pub record SystemStays (im im' : Image) (o o' : Owners) (l : Layout) : Type 0 where
  pub size : im'.size ≡ im.size
  pub count : im'.count ≡ im.count
  pub superblock : im'.at (superblock_place im.size) ≡ im.at (superblock_place im.size)
  pub inodes : (path : Path) (a : ℕ) → follow (flat_of im o) l.master path ≡ Some a → (o' a ≡ o a) × (holding im' o' a ≡ holding im o a)
  pub rings : (j d : ℕ) → IsJournalAt l j d → holding im' o' d ≡ holding im o d
  pub places : (b : ℕ) → (IsRingPlace o' l b → IsRingPlace o l b) × (IsRingPlace o l b → IsRingPlace o' l b)
