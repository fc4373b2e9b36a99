-- Laws of replays.
use Rattle.std.specs.Prelude.{ℕ, ◌≡◌, true, IsTrue, slice_get, Some}
use Rattle.image_model.specs.Image.{Image, image_of}
use Rattle.image_model.specs.Replays.{Replayed}
use Rattle.image_model.specs.Stands.{Layout}
use Rattle.image_mount.specs.Mounted.{HasSameBlocks, IsMounted, Journal, MountedValue}
use Rattle.image_replays.specs.Replays.{Stops}
use Rattle.shared_disk.specs.Disk.{DiskState}

-- where something stops the replay there is no replayed image
abbrev pub StoppedAreNotReplayed : Type 0
StoppedAreNotReplayed = (im replayed : Image) (l : Layout) (rule b : ℕ) → Stops im l rule b → Replayed im l replayed → ⊥

-- an image that was mounted, all its journals clean, is its own replayed image
abbrev pub CleanMountsStay : Type 0
CleanMountsStay = (im replayed : Image) (m : MountedValue) (l : Layout) → IsMounted im m → ((j : ℕ) (journal : Journal) → slice_get m.journals j ≡ Some journal → journal.head.clean ≡ true)
    → Replayed im l replayed → replayed ≡ im

-- the replayed image has the blocks by which the image was mounted as they lie: so what was mounted is mounted of it
abbrev pub ReplayedHasSameBlocks : Type 0
ReplayedHasSameBlocks = (s : DiskState) (m : MountedValue) (l : Layout) (replayed : Image) → IsTrue s.tells → IsMounted (image_of s) m → Replayed (image_of s) l replayed → HasSameBlocks s m.system replayed
