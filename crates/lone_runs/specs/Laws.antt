-- What a run leaves, on an image that stands for a tree.
use Rattle.std.specs.Prelude.{ℕ, ◌≡◌, ◌⊎◌, ◌++◌, ◌≤◌, ⊤, false, List, [], ◌∷◌, Option, Some, Result, Ok, Err}
use Rattle.std.specs.List.{AllByRecursion}
use Rattle.cluster_history.specs.History.{Legal, tree_of}
use Rattle.disk_items.specs.Deeds.{AreDoneBy, AreTold, AreToldButOne}
use Rattle.disk_turns.specs.Turns.{Moment}
use Rattle.file_tree.specs.Tree.{Tree}
use Rattle.image_machine.specs.Volumes.{Volume}
use Rattle.image_model.specs.Image.{image_of}
use Rattle.image_model.specs.Profile.{group_length}
use Rattle.image_model.specs.Replays.{StandsReplayed}
use Rattle.image_model.specs.Stands.{IsJournalAt, Layout, Stands}
use Rattle.image_mount.specs.Mounted.{Journal, MountedValue}
use Rattle.image_recovery.specs.Recoveries.{HaveReplayed}
use Rattle.journal_outcomes.specs.Disks.{flown_by}
use Rattle.journal_outcomes.specs.Images.{NoFalseHeader, ring_at}
use Rattle.log_layout.specs.Journal.{IsClean}
use Rattle.logged_scripts.specs.Disks.{disk_after}
use Rattle.logged_scripts.specs.Runs.{is_change}
use Rattle.logged_scripts.specs.declared.ends.RunEnd.TheVariants as script
use Rattle.lone_view.specs.Seeing.{Lone}
use Rattle.mounted_views.specs.Views.{view_of}
use Rattle.peer_replay.specs.declared.planned.Plan.{Plan}
use Rattle.profile_limits.specs.Limits.{least_frames, most_frames, most_group_blocks}
use Rattle.run_rules.specs.Follows.{history_of}
use Rattle.run_rules.specs.History.{NoneStopped}
use Rattle.script_lang.specs.Script.{ScriptValue}
use Rattle.script_lang.specs.declared.script.Client.{Client}
use Rattle.script_lang.specs.declared.script.Line.{Line}
use Rattle.script_lang.specs.declared.script.Line.TheVariants as line
use Rattle.shared_disk.specs.Disk.{DiskState, Fence, Flight, IsIdle, Operation, after_fence}
use Rattle.logged_scripts.specs.Sizes.{IsOfScript}
use Rattle.trace_text.specs.declared.item.TraceItem.{TraceItem}
use Rattle.logged_scripts.specs.Fronts.{StandsAtEachFront, all_items, all_operations}
use Rattle.logged_scripts.specs.WholeRunsStarts.{IsStart, joined}
use Rattle.logged_scripts.specs.Wholes.{Course, IsOneWrite}
use Rattle.lone_runs.specs.Beginning.{IsGiven, IsOwn}
use Rattle.lone_runs.specs.Runs.{GoesSo}
use Rattle.lone_runs.specs.declared.ends.RunEnd.{RunEnd}
use Rattle.lone_runs.specs.declared.ends.RunEnd.TheVariants as end

-- ---- a run

-- Of an image that was mounted, and that stands, its journals replayed, for a tree: such a run, of the view and the journals that mounting told.
pub record IsRunOf (s : ScriptValue) (time frames : ℕ) (before : Moment) (m : MountedValue) (plans : List Plan) (start : Tree) (after : Moment) (items : List TraceItem) (result : Result (Unit {0}) RunEnd) : Type 0 where
  pub from : IsStart before.disk m plans time start
  pub given : IsGiven before.disk (view_of before.disk.size m) m.journals plans
  pub own : Journal
  pub plan : Plan
  pub is_own : IsOwn m.journals plans own plan
  pub goes : GoesSo s time frames before (view_of before.disk.size m) m.journals plans own plan after items result
  pub few : frames ≤ most_frames

-- ---- what was done

-- All its items, and all that was done on its disk, as far as the list is told, are a course: the items tell the operations, but for one write at most.
pub record IsCourseOf (start : DiskState) (its : List TraceItem) (done : List Operation) (left : DiskState) (c : Course) : Type 0 where
  pub items : all_items c ≡ its
  pub operations : all_operations c ≡ done
  pub told : AreDoneBy c.items c.operations
  pub behind : AreDoneBy c.end c.later
  pub one : IsOneWrite c.further
  pub disk : left ≡ disk_after start done

-- the fence, if it is the last operation, left no false header
abbrev pub HasTrueFence : DiskState → Layout → List Operation → Type 0
HasTrueFence start l operations = (front : List Operation) (became : List Flight) → operations ≡ front ++ Fence 1 became ∷ []
    → NoFalseHeader (image_of (disk_after start front)) l (flown_by (disk_after start front) 1) (image_of (after_fence (disk_after start front) 1 became))

-- what it did stands at each front of its items
pub record HasStood (clients : List Client) (before : Moment) (start : Tree) (items : List TraceItem) (operations : List Operation) (left : DiskState) : Type 0 where
  pub volume : Volume
  pub journal : ℕ
  pub course : Course
  pub is : IsCourseOf before.disk items operations left course
  pub stands : StandsAtEachFront volume journal clients before.disk start course

-- So it does where the list of operations is told, and the fence left no false header.
abbrev pub RunsStand : Type 0
RunsStand = (s : ScriptValue) (time frames : ℕ) (before : Moment) (m : MountedValue) (plans : List Plan) (start : Tree) (after : Moment) (items : List TraceItem) (result : Result (Unit {0}) RunEnd) (was operations : List Operation)
    → (is : IsRunOf s time frames before m plans start after items result) → before.list ≡ Some was → after.list ≡ Some (was ++ operations) → HasTrueFence before.disk is.from.mounted.layout operations
    → HasStood s.clients before start items operations after.disk

-- the list gained what the items tell; or, where no node stopped, one write of node 1 besides, one that failed
abbrev pub GainsAsTold : (before after : Option (List Operation)) → List TraceItem → Type 0
GainsAsTold before after items = AreTold before after items ⊎ (NoneStopped items × AreToldButOne 1 before after items)

-- So it is on every disk.
abbrev pub RunsAreTold : Type 0
RunsAreTold = (s : ScriptValue) (time frames : ℕ) (before : Moment) (view : Lone) (journals : List Journal) (plans : List Plan) (own : Journal) (plan : Plan) (after : Moment) (items : List TraceItem) (result : Result (Unit {0}) RunEnd)
    → GoesSo s time frames before view journals plans own plan after items result → GainsAsTold before.list after.list items

-- ---- without a stop

-- Where no node stopped the history is legal, also on a disk whose list isn't told.
abbrev pub RunsAreLegal : Type 0
RunsAreLegal = (s : ScriptValue) (time frames : ℕ) (before : Moment) (m : MountedValue) (plans : List Plan) (start : Tree) (after : Moment) (items : List TraceItem) (result : Result (Unit {0}) RunEnd)
    → IsRunOf s time frames before m plans start after items result → NoneStopped items → Legal (history_of s.clients items) start

-- Where it came to its end without one, the image stands, as it lies and with its journals replayed, for the tree of all that was answered, each journal is clean, and the disk is at rest.
pub record HasEnded (s : ScriptValue) (before : Moment) (m : MountedValue) (start : Tree) (after : Moment) (items : List TraceItem) (l : Layout) : Type 0 where
  pub stands : Stands (image_of after.disk) (tree_of (history_of s.clients items) start)
  pub replayed : StandsReplayed (image_of after.disk) (tree_of (history_of s.clients items) start)
  pub clean : (j k : ℕ) → IsJournalAt l j k → IsClean (ring_at (image_of after.disk) k)
  pub idle : IsIdle after.disk

abbrev pub RunsEnd : Type 0
RunsEnd = (s : ScriptValue) (time frames : ℕ) (before : Moment) (m : MountedValue) (plans : List Plan) (start : Tree) (after : Moment) (items : List TraceItem)
    → (is : IsRunOf s time frames before m plans start after items (Ok tt)) → NoneStopped items → HasEnded s before m start after items is.from.mounted.layout

-- On every disk: there it is at rest.
abbrev pub RunsRest : Type 0
RunsRest = (s : ScriptValue) (time frames : ℕ) (before : Moment) (view : Lone) (journals : List Journal) (plans : List Plan) (own : Journal) (plan : Plan) (after : Moment) (items : List TraceItem) → IsIdle before.disk
    → GoesSo s time frames before view journals plans own plan after items (Ok tt) → NoneStopped items → IsIdle after.disk

-- ---- which ends there are

-- on an image that stands for a tree: want of memory, and what a disk that fails brings
abbrev pub IsOfImageThatStands : RunEnd → Type 0
IsOfImageThatStands (end.Misplaced dinode) = ⊥
IsOfImageThatStands (end.ReplayFailed block rise) = ⊤
IsOfImageThatStands (end.Script (script.Damaged block rule)) = ⊥
IsOfImageThatStands (end.Script (script.NotBuilt line)) = ⊥
IsOfImageThatStands (end.Script (script.LogTooSmall line)) = ⊥
IsOfImageThatStands (end.Script (script.NotLoggable line)) = ⊥
IsOfImageThatStands (end.Script e) = ⊤

-- a call of the script is one that a script may have
abbrev pub IsLineOfScript : Line → Type 0
IsLineOfScript (line.Call client call) = IsOfScript call
IsLineOfScript _ = ⊤

-- with as many frames as any node has at least, calls that a script may have, and no more headers and bitmaps of groups than the profile allows
abbrev pub RunsMeetNoDamage : Type 0
RunsMeetNoDamage = (s : ScriptValue) (time frames : ℕ) (before : Moment) (m : MountedValue) (plans : List Plan) (start : Tree) (after : Moment) (items : List TraceItem) (e : RunEnd)
    → (is : IsRunOf s time frames before m plans start after items (Err e)) → least_frames ≤ frames → AllByRecursion IsLineOfScript s.lines → group_length is.from.mounted.layout.groups ≤ most_group_blocks → IsOfImageThatStands e

-- ---- where nothing changes

-- where no answered call changed anything, and no node stopped, nothing was written behind the replays
pub record WritesNothing (time : ℕ) (before : Moment) (journals : List Journal) (plans : List Plan) (after : Moment) : Type 0 where
  pub begun : List TraceItem
  pub replays : HaveReplayed 1 time before after journals plans joined begun

abbrev pub NothingIsWritten : Type 0
NothingIsWritten = (s : ScriptValue) (time frames : ℕ) (before : Moment) (view : Lone) (journals : List Journal) (plans : List Plan) (own : Journal) (plan : Plan) (after : Moment) (items : List TraceItem)
    → GoesSo s time frames before view journals plans own plan after items (Ok tt) → NoneStopped items → AllByRecursion (λ it. is_change it ≡ false) items → WritesNothing time before journals plans after
