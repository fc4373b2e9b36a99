-- Where a mounted journal lies.
use Rattle.std.specs.Prelude.{ℕ, ◌≡◌, ◌<◌, ◌≤◌, slice_get, Some}
use Rattle.profile_limits.specs.Limits.{most_blocks}
use Rattle.image_model.specs.Image.{image_of}
use Rattle.image_replays.specs.MountedImages.{IsMounted, Journal as MountedJournal, MountedValue}
use Rattle.log_values.specs.Flushing.{block_at}
use Rattle.log_values.specs.Log.{Journal}
use Rattle.shared_disk.specs.Disk.{DiskState, IsIdle}
use Rattle.mounted_views.specs.Views.{journal_of}

-- its places are blocks of a disk of so many, each another one; and so is that of its dinode
pub record IsPlacedOn (count : ℕ) (journal : Journal) : Type 0 where
  pub inside : (p : ℕ) → p < journal.length → block_at journal p < count
  pub apart : (p q : ℕ) → p < journal.length → q < journal.length → block_at journal p ≡ block_at journal q → p ≡ q
  pub dinode : journal.jinode < count

-- So does the first journal of a mounted image on an idle disk, which has no more blocks than a device may have.
abbrev pub MountedJournalsArePlaced : Type 0
MountedJournalsArePlaced = (disk : DiskState) (m : MountedValue) (own : MountedJournal) (frames time : ℕ) → IsIdle disk → IsMounted (image_of disk) m → slice_get m.journals 0 ≡ Some own
    → IsPlacedOn disk.count (journal_of disk.size frames time own) × (disk.count ≤ most_blocks)
