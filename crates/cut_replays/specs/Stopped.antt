-- A replay of all journals that stopped between two of them.
use Rattle.std.specs.Prelude.{ℕ, IsTrue, List}
use Rattle.disk_turns.specs.Turns.{Moment}
use Rattle.file_tree.specs.Tree.{Tree}
use Rattle.gfs2_layout.specs.Device.{IsBlockSize}
use Rattle.image_model.specs.Image.{image_of}
use Rattle.image_model.specs.Replays.{StandsReplayed}
use Rattle.image_mount.specs.Mounted.{IsMounted, MountedValue}
use Rattle.image_recovery.specs.Recoveries.{AreHeadersRead, CanReplayAll, HaveReplayedSome}
use Rattle.image_replays.specs.Replays.{ArePlans}
use Rattle.peer_replay.specs.declared.planned.Plan.{Plan}
use Rattle.shared_disk.specs.Disk.{IsIdle}
use Rattle.trace_text.specs.declared.item.TraceItem.{TraceItem}

-- Where some of the journals of a mounted image were replayed by their plans, and of the others nothing was done, the disk tells its blocks, and has an image that stands, replayed, for the
-- tree for which that image did.
abbrev pub StoppedReplaysStand : Type 0
StoppedReplaysStand = (node time : ℕ) (before after : Moment) (m : MountedValue) (plans : List Plan) (items items' : List TraceItem) (t : Tree) → IsTrue before.disk.tells → IsIdle before.disk
    → IsBlockSize before.disk.size → (is : IsMounted (image_of before.disk) m) → ArePlans (image_of before.disk) is.layout plans → CanReplayAll before.disk m.journals plans
    → AreHeadersRead before.disk.size 1 time m.journals plans → HaveReplayedSome node time before after m.journals plans items items' → StandsReplayed (image_of before.disk) t
    → IsTrue after.disk.tells × StandsReplayed (image_of after.disk) t
