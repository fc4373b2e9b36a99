-- The start of a run of one node: it joins, and replays the journals of a mounted image.
use Rattle.std.specs.Prelude.{ℕ, ◌≡◌, ◌≤◌, ◌++◌, IsTrue, List, [], ◌∷◌, length, take, Option, Some}
use Rattle.cut_replays.specs.Recoveries.{AreHeadersRead, CanReplayAll, HaveFailed, HaveReplayedSome}
use Rattle.disk_turns.specs.Turns.{Moment}
use Rattle.file_tree.specs.Tree.{Tree}
use Rattle.gfs2_layout.specs.Device.{IsBlockSize}
use Rattle.image_machine.specs.Volumes.{Volume, volume_of}
use Rattle.image_model.specs.Image.{Image, image_of}
use Rattle.image_model.specs.Replays.{StandsReplayed}
use Rattle.image_replays.specs.MountedImages.{IsMounted, MountedValue}
use Rattle.image_replays.specs.Replays.{ArePlans}
use Rattle.journal_outcomes.specs.Disks.{flown_by}
use Rattle.journal_outcomes.specs.Images.{NoFalseHeader}
use Rattle.logged_runs.specs.Laws.{IsStop, MayLeave, StandsLost, to_fence}
use Rattle.logged_runs.specs.Standing.{StandsAsTold}
use Rattle.logged_runs.specs.Disks.{disk_after, first_told}
use Rattle.peer_replay.specs.declared.planned.Plan.{Plan}
use Rattle.run_rules.specs.Lives.{DiskHeads}
use Rattle.script_lang.specs.declared.script.Client.{Client}
use Rattle.shared_disk.specs.Disk.{DiskState, Flight, IsIdle, IsOutcome, Operation, after_fence}
use Rattle.trace_text.specs.declared.item.TraceItem.{TraceItem}
use Rattle.trace_text.specs.declared.item.TraceItem.TheVariants as trace

-- ---- where it starts

-- node 1 has joined
abbrev pub joined : List TraceItem
joined = trace.Join 1 ∷ []

-- An idle disk tells its blocks; its image was mounted, and stands for a tree, its journals replayed; and these plans are those of its journals, and can be carried out, with headers of this time.
pub record IsStart (disk : DiskState) (m : MountedValue) (plans : List Plan) (time : ℕ) (start : Tree) : Type 0 where
  pub tells : IsTrue disk.tells
  pub idle : IsIdle disk
  pub sized : IsBlockSize disk.size
  pub mounted : IsMounted (image_of disk) m
  pub planned : ArePlans (image_of disk) mounted.layout plans
  pub can : CanReplayAll disk m.journals plans
  pub read : AreHeadersRead disk.size 1 time m.journals plans
  pub stands : StandsReplayed (image_of disk) start

-- what no run changes of its image
abbrev pub its_volume : (disk : DiskState) (m : MountedValue) (plans : List Plan) (time : ℕ) (start : Tree) → IsStart disk m plans time start → Volume
its_volume disk m plans time start is = volume_of (image_of disk) is.mounted.layout

-- ---- what holds there

-- before the first item the image stands, its journals replayed, for its tree, as no items tell
abbrev pub NothingStands : Type 0
NothingStands = (clients : List Client) (disks : DiskHeads) (disk : DiskState) (m : MountedValue) (plans : List Plan) (time : ℕ) (start : Tree) → IsStart disk m plans time start
    → StandsAsTold clients disks [] start (image_of disk)

-- Where a start has come so far, on this disk with these items: whatever becomes of what is in flight stands as the items tell; so it does behind a stop, and behind the fence of the node, also with the
-- loss of its calls, of which there are none.
pub record StartStands (v : Volume) (clients : List Client) (disks : DiskHeads) (disk : DiskState) (items : List TraceItem) (start : Tree) : Type 0 where
  pub told : (left : Image) → MayLeave v disk left → StandsAsTold clients disks items start left
  pub stops : (x : TraceItem) (left : Image) → IsStop x → MayLeave v disk left → StandsAsTold clients disks (items ++ x ∷ []) start left
  pub fences : (x : TraceItem) (became : List Flight) → IsStop x → IsOutcome disk 1 became
      → let left = image_of (after_fence disk 1 became) in
      NoFalseHeader (image_of disk) v.layout (flown_by disk 1) left → StandsAsTold clients disks (to_fence x items) start left × StandsLost clients disks x items start left 0

-- So it is behind each front of the items, from the join on, where some of the journals were replayed, or all: of the disk as the operations that these items tell have made it.
abbrev pub ReplayFrontsStand : Type 0
ReplayFrontsStand = (clients : List Client) (disks : DiskHeads) (before after : Moment) (m : MountedValue) (plans : List Plan) (time : ℕ) (start : Tree) (items : List TraceItem) (was operations : List Operation) (count : ℕ)
    → (is : IsStart before.disk m plans time start) → HaveReplayedSome 1 time before after m.journals plans joined items → before.list ≡ Some was → after.list ≡ Some (was ++ operations) → 1 ≤ count → count ≤ length items
    → StartStands (its_volume before.disk m plans time start is) clients disks (disk_after before.disk (first_told (take count items) operations)) (take count items) start

-- so where the disk failed in the replay of one
abbrev pub FailedFrontsStand : Type 0
FailedFrontsStand = (clients : List Client) (disks : DiskHeads) (before after : Moment) (m : MountedValue) (plans : List Plan) (time : ℕ) (start : Tree) (items : List TraceItem) (block : Option ℕ) (was operations : List Operation) (count : ℕ)
    → (is : IsStart before.disk m plans time start) → HaveFailed 1 time before after m.journals plans joined items block → before.list ≡ Some was → after.list ≡ Some (was ++ operations) → 1 ≤ count → count ≤ length items
    → StartStands (its_volume before.disk m plans time start is) clients disks (disk_after before.disk (first_told (take count items) operations)) (take count items) start

-- and with all its items, on the disk that it left, where the write that failed may be in flight
abbrev pub FailedReplaysAreTold : Type 0
FailedReplaysAreTold = (clients : List Client) (disks : DiskHeads) (before after : Moment) (m : MountedValue) (plans : List Plan) (time : ℕ) (start : Tree) (items : List TraceItem) (block : Option ℕ)
    → (is : IsStart before.disk m plans time start) → HaveFailed 1 time before after m.journals plans joined items block
    → StartStands (its_volume before.disk m plans time start is) clients disks after.disk items start
