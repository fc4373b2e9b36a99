-- A node may begin with its log on a disk whose image was mounted.
use Rattle.std.specs.Prelude.{ℕ, ◌≡◌, ◌^◌, ◌<◌, slice_get, Some}
use Rattle.image_model.specs.Image.{image_of}
use Rattle.logged_node.specs.Beginning.{MayBeginOn}
use Rattle.mounted_views.specs.Views.{journal_of, view_of}
use Rattle.mounted_views.specs.Mounting.{IsMounted, Journal, MountedValue}
use Rattle.shared_disk.specs.Disk.{DiskState, IsIdle}

-- An image was mounted on an idle disk, and it, or one that is as large, is idle still, as it is behind replays; the node has the first of the journals that were mounted, for headers of a time that they
-- can have.
abbrev pub MountedMayBegin : Type 0
MountedMayBegin = (disk now : DiskState) (m : MountedValue) (own : Journal) (frames time : ℕ) → IsIdle disk → IsMounted (image_of disk) m → slice_get m.journals 0 ≡ Some own → time < 2 ^ 64
    → now.size ≡ disk.size → now.count ≡ disk.count → IsIdle now → MayBeginOn now (view_of now.size m) (journal_of now.size frames time own)
