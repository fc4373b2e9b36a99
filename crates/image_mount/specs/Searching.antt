-- What a search in the blocks that are kept knows of the image, and why it stops.
use Rattle.std.specs.Prelude.{ℕ, ◌≡◌, ◌≤◌, ◌⊎◌, ⊤, IsTrue, List, length, None, Some}
use Rattle.profile_limits.specs.Limits.{most_blocks}
use Rattle.gfs2_layout.specs.Device.{superblock_place}
use Rattle.glock_names.specs.declared.steps.CallFault.{CallFault}
use Rattle.glock_names.specs.declared.steps.CallFault.TheVariants as call
use Rattle.image_model.specs.Claims.{Claims, IsJindex, IsRindex, master_of}
use Rattle.image_model.specs.Image.{Image}
use Rattle.image_model.specs.Owners.{Owner, Below}
use Rattle.image_model.specs.SystemFiles.{IsSystemBlock}
use Rattle.shared_disk.specs.Disk.{DiskState, IsIdle}
use Rattle.image_mount.specs.Found.{HasFormat, IsReached}
use Rattle.image_mount.specs.Refusals.{RefusesRightly}
use Rattle.image_mount.specs.Kept.{Kept, seen_of}
use Rattle.image_mount.specs.declared.fault.MountFault.{MountFault}
use Rattle.image_mount.specs.declared.fault.MountFault.TheVariants as fault
use Rattle.image_mount.specs.declared.stop.Stop.{Stop}
use Rattle.image_mount.specs.declared.stop.Stop.TheVariants as stop

-- the fault of a call over a view, as mounting tells it
abbrev pub of_call : CallFault → MountFault
of_call (call.Damaged block rule) = fault.Damaged block rule
of_call call.NoMemory = fault.NoMemory

-- the blocks that are kept are such as mounting comes to in the image, and hold what they hold there
pub record IsRead (im : Image) (k : Kept) : Type 0 where
  pub size : k.size ≡ im.size
  pub count : length k.entries ≡ im.count
  pub reached : (b : ℕ) (bytes : List ℕ) → (seen_of k).block_at b ≡ Some bytes → IsReached im b
  pub same : (b : ℕ) (bytes : List ℕ) → (seen_of k).block_at b ≡ Some bytes → im.at b ≡ bytes

-- the inode in block d is the list of groups, the master directory or the directory of journals, whose content is read block by block
abbrev pub IsListingFile : Image → ℕ → Type 0
IsListingFile im d = IsRindex im d ⊎ ((d ≡ master_of im) ⊎ IsJindex im d)

-- a block of content that is this owner's is one of such a file
abbrev pub IsLeading : Image → Owner → Type 0
IsLeading im o = (d b k first : ℕ) → o ≡ Below d b k 0 first → IsListingFile im d

-- the superblock is to be read, on a device that has no more blocks than are mounted, or a block of a system file that is claimed by its number in block `from` of the device: of content that of those three files alone
abbrev pub IsWanted : Image → ℕ → ℕ → Type 0
IsWanted im block from = ((block ≡ superblock_place im.size) × (im.count ≤ most_blocks)) ⊎ (HasFormat im × ((o : Owner) × Claims im from block o × IsLeading im o × IsReached im from × IsSystemBlock im block))

-- the image is refused for a cause that it has, or a block is wanted
abbrev pub StopsRightly : Image → Stop → Type 0
StopsRightly im (stop.Refused fault) = RefusesRightly im fault
StopsRightly im (stop.Reads block from) = IsWanted im block from

-- the fault isn't the disk's
abbrev pub IsSteady : MountFault → Type 0
IsSteady (fault.DeviceFault block before after) = ⊥
IsSteady _ = ⊤

-- the block that is wanted isn't kept, and a refusal isn't the disk's
abbrev pub LacksBlock : Kept → Stop → Type 0
LacksBlock k (stop.Refused fault) = IsSteady fault
LacksBlock k (stop.Reads block from) = (seen_of k).block_at block ≡ None

-- the fault is that of the disk at this block
abbrev pub FailsAt : ℕ → MountFault → Type 0
FailsAt b (fault.DeviceFault block before after) = block ≡ b
FailsAt b _ = ⊥

-- the disk is idle, the table has an entry for each of its blocks, and what is kept was read from it, where it tells
pub record IsWorking (s : DiskState) (k : Kept) : Type 0 where
  pub idle : IsIdle s
  pub size : k.size ≡ s.size
  pub count : length k.entries ≡ s.count
  pub same : IsTrue s.tells → (b : ℕ) (bytes : List ℕ) → (seen_of k).block_at b ≡ Some bytes → s.block_at b ≡ bytes

-- The disk tells its blocks, and the image has what the disk has of each block of its own system files. A search comes to no other block, so it
-- finds such an image as it finds the disk's own.
pub record ShowsSystem (s : DiskState) (im : Image) : Type 0 where
  pub tells : IsTrue s.tells
  pub size : im.size ≡ s.size
  pub count : im.count ≡ s.count
  pub same : (b : ℕ) → IsSystemBlock im b → im.at b ≡ s.block_at b
