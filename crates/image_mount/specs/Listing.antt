-- The records of a directory, as the code has them.
use Rattle.std.specs.Prelude.{ℕ, ◌≡◌, ◌+◌, ◌&&◌, Bool, true, false, List, length, map, filter, codes, slice_get, Some}
use Rattle.file_tree.specs.Names.{IsName}
use Rattle.gfs2_layout.specs.Area.{Slot}
use Rattle.gfs2_layout.specs.Exchanges.{directory_count}
use Rattle.gfs2_layout.specs.Inode.{dinode_in, has_hash_flag, is_hashed_in, linear_area}
use Rattle.gfs2_layout.specs.Records.{Record, record_of, records_in, is_dots}
use Rattle.gfs2_layout.specs.Structures.{dinode_of, is_directory, is_in_use}
use Rattle.gfs2_layout.specs.declared.dinode.Dinode.{Dinode}
use Rattle.gfs2_layout.specs.declared.dirent.Dirent.{Dirent}
use Rattle.glock_names.specs.declared.steps.Entry.{Entry}
use Rattle.image_model.specs.Claims.{every, HasDirectory, Claims}
use Rattle.image_model.specs.Image.{Image}
use Rattle.image_model.specs.Owners.{Owner, is_dinode, parent_of}
use Rattle.image_model.specs.Rules.{HasRecordIn, HasRecords}
use Rattle.image_model.specs.SystemFiles.{IsSystemFile}
use Rattle.image_mount.specs.Found.{HasFormat, IsReached}
use Rattle.image_mount.specs.Kept.{Kept, seen_of}
use Rattle.image_mount.specs.declared.inodes.Inode.{Inode}
use Rattle.image_mount.specs.declared.listing.Link.{Link}
use Rattle.image_mount.specs.declared.listing.Named.{Named}

-- what a record says that was read
abbrev pub said : Named → Record
said n = record { name = n.name.now; number = n.entry.number; address = n.entry.addr; kind = n.entry.kind }

-- what a record's head and its name say
abbrev pub said_by : Dirent → List ℕ → Record
said_by head name = record { name = name; number = head.inum.number; address = head.inum.address; kind = head.kind }

-- what those of these records say that are in use
abbrev pub said_in : List Slot → List Record
said_in slots = map record_of (filter (λ s. is_in_use s.head) slots)

-- what a record says, and the block that it stands in
abbrev pub standing : Named → Record × ℕ
standing n = (said n, n.block)

abbrev pub link_of : Named → Link
link_of n = record { entry = n.entry; from = n.block }

-- a dinode with the mode of a directory and the flag of a hashed one
abbrev pub is_hashed_by : Dinode → Bool
is_hashed_by d = is_directory d && has_hash_flag d

-- the dinode is the one that is kept
abbrev pub HasKeptDinode : Kept → Inode → Type 0
HasKeptDinode k inode = (bytes : List ℕ) → (seen_of k).block_at inode.block ≡ Some bytes → inode.dinode ≡ dinode_of bytes

-- what the record repeats of the inode to which it leads
pub record IsEntryOf (entry : Entry) (r : Record) : Type 0 where
  pub number : r.number ≡ entry.number
  pub address : r.address ≡ entry.addr
  pub kind : r.kind ≡ entry.kind

-- these are the records of a linear directory
pub record AreRecordsOf (im : Image) (a : ℕ) (records : List Record) : Type 0 where
  pub directory : HasDirectory im a
  pub linear : is_hashed_in (every im a) ≡ false
  pub all : records ≡ records_in (linear_area (every im a))

-- these are all records of a directory, each with the block that it stands in, which is on the device
pub record AreAllRecords (im : Image) (a : ℕ) (records : List Named) : Type 0 where
  pub directory : HasDirectory im a
  pub each : (i : ℕ) (n : Named) → slice_get records i ≡ Some n → HasRecordIn im a n.block (said n)
  pub reached : (i : ℕ) (n : Named) → slice_get records i ≡ Some n → IsReached im n.block
  pub all : (x : ℕ) (r : Record) → HasRecordIn im a x r → (i : ℕ) × ((n : Named) × (slice_get records i ≡ Some n) × (said n ≡ r))

-- a directory has so many records, and so many directories among them
abbrev pub AreCountedIn : Image → ℕ → List Record → Type 0
AreCountedIn im a records = (all : List Record) × HasRecords im a all × (length all ≡ length records) × (directory_count all ≡ directory_count records)

-- the record is `.`, `..`, or has a name
abbrev pub HasItsOwnName : Named → Type 0
HasItsOwnName n = is_dots n.name.now ≡ false → IsName n.name.now

-- one of these has this name, and leads to this block
pub record LeadsAmong (records : List Named) (name : List ℕ) (block : ℕ) : Type 0 where
  pub index : ℕ
  pub row : Named
  pub there : slice_get records index ≡ Some row
  pub named : row.name.now ≡ name
  pub leads : row.entry.addr ≡ block

-- these have the two dots of a directory with this dinode, below the one in block `parent`, and are as many as it says
pub record AreRowsOf (inode : Inode) (parent : ℕ) (records : List Named) : Type 0 where
  pub dot : LeadsAmong records (codes ".") inode.block
  pub dots : LeadsAmong records (codes "..") parent
  pub entries : inode.dinode.entries ≡ length records
  pub links : inode.dinode.nlink ≡ 2 + directory_count (map said records)

-- no name comes twice
abbrev pub AreDistinct : List Record → Type 0
AreDistinct records = (i j : ℕ) (r s : Record) → slice_get records i ≡ Some r → slice_get records j ≡ Some s → r.name ≡ s.name → i ≡ j

-- a directory of the system that is claimed in the image and lies on the device, below the one with its dinode in block `parent`, and its dinode
pub record IsDirectoryIn (im : Image) (inode : Inode) (parent : ℕ) : Type 0 where
  pub format : HasFormat im
  pub owner : Owner
  pub claimed : Claims im inode.from inode.block owner
  pub is_inode : is_dinode owner ≡ true
  pub dinode : inode.dinode ≡ dinode_in (every im inode.block)
  pub directory : is_directory inode.dinode ≡ true
  pub reached : IsReached im inode.block
  pub from_reached : IsReached im inode.from
  pub above : parent ≡ parent_of inode.block owner
  pub file : IsSystemFile im inode.block
