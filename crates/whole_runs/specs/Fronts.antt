-- A run with all that came behind it, a stop, the fence and the loss, front by front.
use Rattle.std.specs.Prelude.{ℕ, ◌≡◌, ◌≤◌, List, [], ◌∷◌, ◌++◌, length, take, Option, Some}
use Rattle.cluster_history.specs.History.{KeepsSynced, Legal, tree_of}
use Rattle.cluster_history.specs.Losses.{LossIsRight}
use Rattle.cut_replays.specs.Recoveries.{HaveFailed, HaveReplayedSome}
use Rattle.disk_turns.specs.Turns.{Moment}
use Rattle.file_tree.specs.Tree.{Tree}
use Rattle.image_machine.specs.Volumes.{Volume, volume_of}
use Rattle.image_model.specs.Image.{Image, image_of}
use Rattle.image_model.specs.Owners.{Owners}
use Rattle.image_model.specs.Replays.{StandsReplayed}
use Rattle.image_model.specs.Stands.{Layout}
use Rattle.image_replays.specs.MountedImages.{MountedValue}
use Rattle.journal_outcomes.specs.Disks.{flown_by}
use Rattle.journal_outcomes.specs.Images.{NoFalseHeader}
use Rattle.logged_runs.specs.Disks.{disk_after}
use Rattle.logged_runs.specs.Laws.{IsStop, MayLeave, fenced_upto}
use Rattle.logged_runs.specs.Points.{Point}
use Rattle.logged_runs.specs.Standing.{StandsAsTold}
use Rattle.peer_replay.specs.declared.planned.Plan.{Plan}
use Rattle.run_rules.specs.Follows.{history_of}
use Rattle.run_rules.specs.Lives.{AcceptedHead, TraceKeptRight}
use Rattle.script_lang.specs.declared.script.Client.{Client}
use Rattle.shared_disk.specs.Disk.{DiskState, Flight, IsOutcome, Operation, after_fence}
use Rattle.trace_text.specs.declared.item.TraceItem.{TraceItem}
use Rattle.trace_text.specs.declared.item.TraceItem.TheVariants as trace
use Rattle.whole_runs.specs.Starts.{IsStart, its_volume, joined}
use Rattle.whole_runs.specs.Wholes.{Course, HasCourse, HasRunWhole, IsRun, disk_behind, going_on, head_at, heads_of, stopped_course}

-- ---- all of it

abbrev pub all_items : Course → List TraceItem
all_items c = c.items ++ c.end

abbrev pub all_operations : Course → List Operation
all_operations c = (c.operations ++ c.further) ++ c.later

-- the disk that it left, before any fence
abbrev pub disk_left : DiskState → Course → DiskState
disk_left start c = disk_after start (c.operations ++ c.further)

-- ---- what came behind it

-- each write in flight of the node became something, and no false header came of that
pub record SettlesRight (v : Volume) (disk : DiskState) (became : List Flight) : Type 0 where
  pub outcome : IsOutcome disk 1 became
  pub no_false : NoFalseHeader (image_of disk) v.layout (flown_by disk 1) (image_of (after_fence disk 1 became))

-- the loss that keeps the calls up to this number is right, by the head that the fence left
abbrev pub IsRightLoss : Volume → ℕ → List Client → DiskState → Course → TraceItem → List Flight → ℕ → Type 0
IsRightLoss v d clients start c x became kept =
    LossIsRight (history_of clients c.items) 1
    (fenced_upto (heads_of v d start (stopped_course c x became (trace.Lost 1 kept ∷ [])) (image_of (after_fence (disk_left start c) 1 became))) x c.items) kept

-- Nothing more; a stop of the node; with its fence; and with the right loss.
pub data ComesBehind (v : Volume) (d : ℕ) (clients : List Client) (start : DiskState) (c : Course) : Course → Type 0 where
  nothing_more : ComesBehind v d clients start c (going_on c [] [])
  a_stop : (x : TraceItem) → IsStop x → ComesBehind v d clients start c (going_on c (x ∷ []) [])
  a_fence : (x : TraceItem) (became : List Flight) → IsStop x → SettlesRight v (disk_left start c) became → ComesBehind v d clients start c (stopped_course c x became [])
  a_loss : (x : TraceItem) (became : List Flight) (kept : ℕ) → IsStop x → SettlesRight v (disk_left start c) became → IsRightLoss v d clients start c x became kept
      → ComesBehind v d clients start c (stopped_course c x became (trace.Lost 1 kept ∷ []))

-- ---- what holds of it

-- the heads that the disks had behind its items
abbrev pub heads_behind : Volume → ℕ → DiskState → Course → ℕ → ℕ → AcceptedHead
heads_behind v d start c node p = head_at v d (image_of (disk_behind start c p))

-- the last of its items is a loss
pub record EndsWithLoss (c : Course) : Type 0 where
  pub before : List TraceItem
  pub kept : ℕ
  pub are : c.end ≡ before ++ trace.Lost 1 kept ∷ []

-- Its history is legal, and keeps what was synced; each loss in it is right. Behind each front of all its items, whatever becomes of what is in flight stands as these tell; and so it does on the disk that
-- all its operations left: once the loss is told, that stands for the tree of the whole history.
pub record StandsAtEachFront (v : Volume) (d : ℕ) (clients : List Client) (start : DiskState) (tree : Tree) (c : Course) : Type 0 where
  pub legal : Legal (history_of clients (all_items c)) tree
  pub synced : KeepsSynced (history_of clients (all_items c))
  pub right : TraceKeptRight clients (heads_behind v d start c) (all_items c)
  pub fronts : (count : ℕ) (left : Image) → count ≤ length (all_items c) → MayLeave v (disk_behind start c count) left → StandsAsTold clients (heads_of v d start c left) (take count (all_items c)) tree left
  pub whole : (left : Image) → MayLeave v (disk_after start (all_operations c)) left → StandsAsTold clients (heads_of v d start c left) (all_items c) tree left
  pub settled : EndsWithLoss c → StandsReplayed (image_of (disk_after start (all_operations c))) (tree_of (history_of clients (all_items c)) tree)

-- ---- of a run

-- So it is of each run whose list of operations is told, with what came behind it.
abbrev pub RunsStandAtEachFront : Type 0
RunsStandAtEachFront = (clients : List Client) (before : Moment) (m : MountedValue) (plans : List Plan) (time : ℕ) (start : Tree) (o : Owners) (l : Layout) (d : ℕ) (a p q : Point) (operations : List Operation)
    → IsRun clients before m plans time start o l d a p q → (run : HasRunWhole before o l d clients start a q operations) → (c : Course) → ComesBehind (volume_of (image_of a.disk) l) d clients before.disk run.course c
    → StandsAtEachFront (volume_of (image_of a.disk) l) d clients before.disk start c

-- ---- of a start

-- it has a course, and stands so with what came behind it; the loss of no call is right
pub record HasStartWhole (before : Moment) (v : Volume) (clients : List Client) (start : Tree) (items : List TraceItem) (left : DiskState) (operations : List Operation) : Type 0 where
  pub course : Course
  pub has : HasCourse before items left operations course
  pub stands : (d : ℕ) (c : Course) → ComesBehind v d clients before.disk course c → StandsAtEachFront v d clients before.disk start c
  pub lost : (d : ℕ) (x : TraceItem) (became : List Flight) → IsStop x → SettlesRight v (disk_left before.disk course) became → IsRightLoss v d clients before.disk course x became 0

-- So it is of a start that the disk, or a crash, cut short in the replay of a journal.
abbrev pub FailedStartsStand : Type 0
FailedStartsStand = (clients : List Client) (before after : Moment) (m : MountedValue) (plans : List Plan) (time : ℕ) (start : Tree) (items : List TraceItem) (block : Option ℕ) (was operations : List Operation)
    → (is : IsStart before.disk m plans time start) → HaveFailed 1 time before after m.journals plans joined items block → before.list ≡ Some was → after.list ≡ Some (was ++ operations)
    → HasStartWhole before (its_volume before.disk m plans time start is) clients start items after.disk operations

-- and of one that replayed some journals, or all
abbrev pub StartsStand : Type 0
StartsStand = (clients : List Client) (before after : Moment) (m : MountedValue) (plans : List Plan) (time : ℕ) (start : Tree) (items : List TraceItem) (was operations : List Operation)
    → (is : IsStart before.disk m plans time start) → HaveReplayedSome 1 time before after m.journals plans joined items → before.list ≡ Some was → after.list ≡ Some (was ++ operations)
    → HasStartWhole before (its_volume before.disk m plans time start is) clients start items after.disk operations
