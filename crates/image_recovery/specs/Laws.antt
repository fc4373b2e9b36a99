-- Laws of plans that are carried out.
use Rattle.std.specs.Prelude.{ℕ, ◌<◌, List, IfSome, get_or, length}
use Rattle.std.specs.List.{AllByRecursion}
use Rattle.image_mount.specs.Mounted.{Journal}
use Rattle.image_replays.specs.Replays.{HavePlaces, IsWritable}
use Rattle.disk_turns.specs.Turns.{Moment}
use Rattle.image_recovery.specs.Recoveries.{CanReplayAll, HaveCrashed, HaveFailed}
use Rattle.journal_replays.specs.Replays.{CanReplay}
use Rattle.log_layout.specs.declared.log_header.LogHeader.{LogHeader}
use Rattle.peer_replay.specs.declared.planned.Plan.{Plan}
use Rattle.shared_disk.specs.Disk.{DiskState}
use Rattle.trace_text.specs.declared.item.TraceItem.{TraceItem}

-- a plan of which all that goes home can be written, and whose header has a place in a block of the disk, can be carried out
abbrev pub WritableCanBeReplayed : Type 0
WritableCanBeReplayed = (d : DiskState) (blocks : List ℕ) (p : Plan) → IsWritable d p → IfSome p.clean (λ (h : LogHeader). h.blkno < length blocks)
    → IfSome p.clean (λ (h : LogHeader). get_or blocks h.blkno 0 < d.count) → CanReplay d blocks p

-- and so can the plans of all journals, of which all that goes home can be written, and whose headers have places
abbrev pub PlannedCanBeReplayed : Type 0
PlannedCanBeReplayed = (d : DiskState) (journals : List Journal) (plans : List Plan) → AllByRecursion (IsWritable d) plans → HavePlaces d journals plans → CanReplayAll d journals plans

-- a replay in which the node crashed is one in which the disk failed at what would have come next: so all that is known of that is known of it
abbrev pub CrashedAreAsFailed : Type 0
CrashedAreAsFailed = (node time : ℕ) (before after : Moment) (journals : List Journal) (plans : List Plan) (items items' : List TraceItem)
    → (is : HaveCrashed node time before after journals plans items items') → HaveFailed node time before after journals plans items items' is.crashed.block
