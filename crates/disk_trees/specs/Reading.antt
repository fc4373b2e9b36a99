-- The image on a disk, as a whole in memory.
use Rattle.std.specs.Prelude.{ℕ, ◌≡◌, ◌*◌, ◌<◌, IsTrue, if◌then◌else◌, nat_lt, List, [], length}
use Rattle.image_model.specs.Image.{Image}
use Rattle.image_model.specs.Replays.{Replayed}
use Rattle.image_model.specs.Rules.{IsBrokenBlock}
use Rattle.image_model.specs.Stands.{Layout}
use Rattle.image_replays.specs.Replays.{Stops}
use Rattle.shared_disk.specs.Blocks.{block_in}
use Rattle.shared_disk.specs.Disk.{DiskState}

-- the image as far as the device goes: behind its last block there is nothing
abbrev pub ending : Image → Image
ending im = record { size = im.size; count = im.count; at = λ b. if nat_lt b im.count then im.at b else [] }

-- Why the tree of an image with this layout isn't read: block b of the device stops the replay of its journals; or, as far as the device goes, it breaks a rule once
-- what they say is in place.
pub data IsUnreadable (im : Image) (l : Layout) (b rule : ℕ) : Type 0 where
  stopped : Stops im l rule b → b < im.count → IsUnreadable im l b rule
  broken : (replayed : Image) → Replayed im l replayed → IsBrokenBlock (ending replayed) rule b → IsUnreadable im l b rule

-- these bytes are the first blocks of the disk, so many of them, one after another, as far as it tells them
pub record AreFirstBlocks (s : DiskState) (count : ℕ) (bytes : List ℕ) : Type 0 where
  pub long : length bytes ≡ count * s.size
  pub each : IsTrue s.tells → (b : ℕ) → b < count → block_in s.size bytes b ≡ s.block_at b
