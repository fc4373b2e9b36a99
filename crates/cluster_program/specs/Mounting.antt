-- Which image can be mounted, and how a command ends that can't mount one.
use Rattle.std.specs.Prelude.{ℕ, ◌≡◌, ◌<◌, ◌^◌, Bool, false, true, IsTrue, List, length, Option, None, Some, slice_get}
use Rattle.std.specs.List.{All, AllByRecursion}
use Rattle.fault_counts.specs.Causes.{WentUp}
use Rattle.file_tree.specs.Tree.{Tree}
use Rattle.image_model.specs.Claims.{every}
use Rattle.image_model.specs.Image.{Image, IsImage, image_of}
use Rattle.image_model.specs.Replays.{Replayed, StandsReplayed}
use Rattle.image_model.specs.Stands.{Layout}
use Rattle.image_mount.specs.Found.{IsReached}
use Rattle.image_mount.specs.Mounted.{Journal, MountedValue, IsMounted, IsOfProfile}
use Rattle.image_mount.specs.Refusals.{IsOutside, RefusesRightly}
use Rattle.image_mount.specs.Searching.{ShowsSystem}
use Rattle.image_mount.specs.declared.field.Field.{Field}
use Rattle.image_mount.specs.declared.fault.MountFault.TheVariants as fault
use Rattle.image_replays.specs.Replays.{IsReadPlace, Stops}
use Rattle.log_layout.specs.Journal.{ring_of, head_in}
use Rattle.log_layout.specs.declared.log_header.LogHeader.{LogHeader}
use Rattle.shared_disk.specs.Disk.{DiskState}
use Rattle.run_reports.specs.declared.status.Status.{Status}
use Rattle.run_reports.specs.declared.status.Status.TheVariants as status

-- so of the image on a disk that tells its blocks
abbrev pub OfImage : DiskState → (Image → Type 0) → Type 0
OfImage disk P = IsTrue disk.tells → P (image_of disk)

-- the disk tells its blocks, and its image, with what its journals say in place, stands for the tree
pub record IsImageOf (disk : DiskState) (tree : Tree) : Type 0 where
  pub tells : IsTrue disk.tells
  pub stands : StandsReplayed (image_of disk) tree

-- the image stands for no tree, whatever its journals say
abbrev pub NeverStands : Image → Type 0
NeverStands im = (tree : Tree) → StandsReplayed im tree → ⊥

-- the image, with what its journals say in place, is one of the profile
pub record HasProfile (im : Image) : Type 0 where
  pub layout : Layout
  pub replayed : Image
  pub is : Replayed im layout replayed
  pub profile : IsOfProfile replayed

-- each journal of what was mounted was left clean
abbrev pub IsLeftClean : MountedValue → Type 0
IsLeftClean m = (j : ℕ) (journal : Journal) → slice_get m.journals j ≡ Some journal → journal.head.clean ≡ true

-- so of whatever is mounted from this image
abbrev pub AreClean : Image → Type 0
AreClean im = (m : MountedValue) → IsMounted im m → IsLeftClean m

-- this was mounted from the disk's image, as far as the disk tells it
abbrev pub IsMountedOn : DiskState → MountedValue → Type 0
IsMountedOn disk m = OfImage disk (λ im. IsMounted im m)

-- and so it would be of the image with what its journals say in place
abbrev pub IsMountedReplayed : DiskState → MountedValue → Type 0
IsMountedReplayed disk m = OfImage disk (λ im. (l : Layout) (replayed : Image) → Replayed im l replayed → IsMounted replayed m)

-- and so it would be of each image of which the disk shows the system files
abbrev pub IsMountedAlike : DiskState → MountedValue → Type 0
IsMountedAlike disk m = (other : Image) → ShowsSystem disk other → IsMounted other m

-- The image on the disk, with what its journals say in place, stands for a tree and is one of the profile.
pub record IsMountable (disk : DiskState) : Type 0 where
  pub tree : Tree
  pub is : IsImageOf disk tree
  pub profile : HasProfile (image_of disk)

-- and each journal was left clean
pub record IsMountableClean (disk : DiskState) : Type 0 where
  pub mountable : IsMountable disk
  pub clean : AreClean (image_of disk)

-- ---- the heads of journals in an image, by the blocks of their dinodes

abbrev pub is_clean_head : Option LogHeader → Bool
is_clean_head None = false
is_clean_head (Some head) = head.clean

abbrev pub is_clean_in : Image → Journal → Bool
is_clean_in im journal = is_clean_head (head_in (ring_of (every im journal.dinode)))

-- A damage that the system files show, on a disk that tells its blocks: it is told rightly of each image, of whole blocks, that has in each block of
-- its own system files what the disk has there. Whatever its other blocks hold, that block breaks that rule.
abbrev pub IsToldBySystem : DiskState → ℕ → ℕ → Type 0
IsToldBySystem disk block rule = (other : Image) → IsImage other → ShowsSystem disk other → RefusesRightly other (fault.Damaged block rule)

-- So is a field that the system files show to be outside the profile.
abbrev pub IsOutsideBySystem : DiskState → Field → ℕ → Type 0
IsOutsideBySystem disk what value = (other : Image) → IsImage other → ShowsSystem disk other → IsOutside other what value

-- Why an image isn't mounted: the disk failed at a block of it, one of the system files where it tells its blocks; a field is outside the profile; a block
-- breaks a rule, which is one to which mounting comes, or the first that no group has, or a superblock that isn't one. It is the system files that show each of the two. A root that is none of the groups' data blocks is looked for last: its number stands in the superblock.
pub data MountEnds (disk : DiskState) (faults faults_now : ℕ → ℕ) : Status → Type 0 where
  DiskFails : (block x y : ℕ) → WentUp (faults 0) (faults_now 0) x y → block < disk.count → OfImage disk (λ im. IsReached im block) → MountEnds disk faults faults_now (status.DeviceFault 0 (Some block) x y)
  LiesOutside : (what : Field) (value : ℕ) → OfImage disk (λ im. IsOutside im what value) → IsOutsideBySystem disk what value → OfImage disk (λ im. HasProfile im → ⊥)
      → MountEnds disk faults faults_now (status.NotProfile what value)
  IsDamaged : (block rule : ℕ) → OfImage disk (λ im. RefusesRightly im (fault.Damaged block rule)) → IsToldBySystem disk block rule → OfImage disk NeverStands
      → MountEnds disk faults faults_now (status.Damaged block rule)
  LacksRoom : MountEnds disk faults faults_now status.NoMemory

-- the image was mounted
abbrev pub HasMounted : Image → Type 0
HasMounted im = (m : MountedValue) × IsMounted im m

-- it was, and this block is at a place of one of its journals that wasn't left clean, so one that is reached
pub record HasReadPlace (im : Image) (b : ℕ) : Type 0 where
  pub value : MountedValue
  pub mounted : IsMounted im value
  pub place : IsReadPlace value.journals b
  pub reached : IsReached im b

-- it was, and this block of the device stops the replay of its journals, by this rule
pub record IsStoppedAt (im : Image) (b rule : ℕ) : Type 0 where
  pub value : MountedValue
  pub mounted : IsMounted im value
  pub stops : Stops im mounted.layout rule b
  pub inside : b < im.count

-- a journal has so many places as can be numbered, and these are blocks of a disk of so many
abbrev pub IsPlaced : ℕ → Journal → Type 0
IsPlaced count j = (length j.blocks < 2 ^ 32) × All (λ b. b < count) j.blocks

abbrev pub ArePlaced : ℕ → List Journal → Type 0
ArePlaced count journals = AllByRecursion (IsPlaced count) journals

-- Why a run doesn't begin: the image isn't mounted; or it is, and, as its journals were read, the disk failed at a block of it, at a place of one of them
-- where it tells its blocks, or a block stops their replay; or, on a disk that tells nothing, a journal with its dinode in this block is none that a node can have there.
pub data BeginEnds (disk : DiskState) (faults faults_now : ℕ → ℕ) : Status → Type 0 where
  NotMounted : (own : Status) → MountEnds disk faults faults_now own → BeginEnds disk faults faults_now own
  NotRead : (block x y : ℕ) → OfImage disk (λ im. HasReadPlace im block) → WentUp (faults 0) (faults_now 0) x y → block < disk.count
      → BeginEnds disk faults faults_now (status.DeviceFault 0 (Some block) x y)
  IsStopped : (block rule : ℕ) → OfImage disk (λ im. IsStoppedAt im block rule) → OfImage disk NeverStands → BeginEnds disk faults faults_now (status.Damaged block rule)
  IsMisplaced : (dinode : ℕ) → (IsTrue disk.tells → ⊥) → BeginEnds disk faults faults_now (status.Damaged dinode 3)
