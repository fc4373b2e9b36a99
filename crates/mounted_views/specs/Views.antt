-- What a node that begins on a mounted image has of it.
use Rattle.std.specs.Prelude.{ℕ, length}
use Rattle.std.specs.FinMap as table
use Rattle.image_replays.specs.MountedImages as mounted
use Rattle.image_replays.specs.MountedImages.{MountedValue}
use Rattle.log_values.specs.Log.{Journal}
use Rattle.lone_view.specs.Seeing.{Lone}

-- of no block yet, and what mounting told
abbrev pub view_of : ℕ → MountedValue → Lone
view_of size m = record { blocks = table.empty; groups = m.groups; root = m.superblock.root.address; size = size }

-- a journal that was mounted, as that of node 1: with so many frames, for headers of this time
abbrev pub journal_of : (size frames time : ℕ) → mounted.Journal → Journal
journal_of size frames time own = record { jid = 0; length = length own.blocks; places = own.blocks; size = size; frames = frames; jinode = own.dinode; time = time }
