-- A replay of all journals in which the disk failed.
use Rattle.std.specs.Prelude.{ℕ, IsTrue, List, Option}
use Rattle.disk_turns.specs.Turns.{Moment}
use Rattle.file_tree.specs.Tree.{Tree}
use Rattle.gfs2_layout.specs.Device.{IsBlockSize}
use Rattle.image_model.specs.Image.{Image, image_of}
use Rattle.image_model.specs.Replays.{StandsReplayed}
use Rattle.image_model.specs.Stands.{Layout}
use Rattle.image_mount.specs.Mounted.{IsMounted, MountedValue}
use Rattle.image_recovery.specs.Recoveries.{AreHeadersRead, CanReplayAll, HaveFailed}
use Rattle.image_replays.specs.Replays.{ArePlans}
use Rattle.journal_outcomes.specs.Disks.{flown_by}
use Rattle.journal_outcomes.specs.Images.{IsImageOutcome, NoFalseHeader}
use Rattle.peer_replay.specs.declared.planned.Plan.{Plan}
use Rattle.shared_disk.specs.Disk.{DiskState, IsIdle}
use Rattle.trace_text.specs.declared.item.TraceItem.{TraceItem}

-- An outcome of what a node has in flight on a disk, whose image has these journals: where a write goes any whole block, but no false header.
pub record IsOutcomeOn (disk : DiskState) (node : ℕ) (l : Layout) (left : Image) : Type 0 where
  pub outcome : IsImageOutcome (image_of disk) (flown_by disk node) left
  pub true_headers : NoFalseHeader (image_of disk) l (flown_by disk node) left

-- The disk tells its blocks, and in each outcome of what the node has in flight on it the image stands, replayed, for the tree.
pub record StandsInEachOutcome (disk : DiskState) (node : ℕ) (l : Layout) (t : Tree) : Type 0 where
  pub tells : IsTrue disk.tells
  pub stands : (left : Image) → IsOutcomeOn disk node l left → StandsReplayed left t

-- Where the disk failed as the journals of a mounted image were replayed by their plans, whatever becomes of the writes that are in flight then is an
-- image that stands, replayed, for the tree for which that image did.
abbrev pub FailedReplaysStand : Type 0
FailedReplaysStand = (node time : ℕ) (before after : Moment) (m : MountedValue) (plans : List Plan) (items items' : List TraceItem) (block : Option ℕ) (t : Tree) → IsTrue before.disk.tells
    → IsIdle before.disk → IsBlockSize before.disk.size → (is : IsMounted (image_of before.disk) m) → ArePlans (image_of before.disk) is.layout plans → CanReplayAll before.disk m.journals plans
    → AreHeadersRead before.disk.size 1 time m.journals plans → HaveFailed node time before after m.journals plans items items' block → StandsReplayed (image_of before.disk) t
    → StandsInEachOutcome after.disk node is.layout t
