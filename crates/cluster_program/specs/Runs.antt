-- How a run of a script goes, and how it ends.
use Rattle.std.specs.Prelude.{ℕ, ◌≡◌, ◌≢◌, ◌++◌, ◌+◌, ◌<◌, ⊤, false, true, Contains, IfSome, IsSome, IsTrue, List, [], ◌∷◌, length, slice_get, Option, None, Some, Result, Ok, Err}
use Rattle.std.specs.List.{AllByRecursion}
use Rattle.fault_counts.specs.Causes.{WentUp}
use Rattle.command_words.specs.Commands.{frames_of}
use Rattle.drafts.specs.declared.change.Written.{Written}
use Rattle.file_tree.specs.Tree.{Tree}
use Rattle.file_tree.specs.declared.call.Call.{Call}
use Rattle.cluster_history.specs.History.{IsNumbered, Legal}
use Rattle.damage_laws.specs.Telling.{HasAstrayOn}
use Rattle.disk_turns.specs.Turns.{Moment, moment}
use Rattle.glock_names.specs.Views.{HasBlock, Seen}
use Rattle.draft_changes.specs.Shown.{AgreesWith}
use Rattle.image_model.specs.Image.{Image, IsImage, image_of}
use Rattle.image_model.specs.Rules.{IsBrokenBlock}
use Rattle.image_mount.specs.Mounted.{Journal, MountedValue, IsMounted}
use Rattle.image_recovery.specs.Left.{HaveLowHeads, IsLeft}
use Rattle.image_recovery.specs.Recoveries.{HaveReplayed}
use Rattle.image_replays.specs.Replays.{ArePlans, HavePlaces, IsWritable}
use Rattle.kept_profiles.specs.Profiles.{HaveLowSequences}
use Rattle.log_layout.specs.declared.log_header.LogHeader.{LogHeader}
use Rattle.kept_profiles.specs.Faults.{IsDamagedFor}
use Rattle.kept_profiles.specs.Beginning.{IsOwn}
use Rattle.kept_profiles.specs.Ends.{HasCause}
use Rattle.kept_profiles.specs.Laws.{GainsAsTold, HasEnded, HasStood, HasTrueFence, IsOfImageThatStands}
use Rattle.kept_profiles.specs.Runs.{GoesSo, IsSameDisk}
use Rattle.kept_profiles.specs.lone_runs_ends.RunEnd.{RunEnd}
use Rattle.kept_profiles.specs.lone_runs_ends.RunEnd.TheVariants as end
use Rattle.kept_profiles.specs.logged_scripts_ends.RunEnd.TheVariants as script_end
use Rattle.kept_profiles.specs.LoggedScriptsRuns.{is_change}
use Rattle.lone_scripts.specs.Laws.{AllAnsweredOrDown}
use Rattle.lone_scripts.specs.Runs.{IsLoneRun, IsWholeLoneRun}
use Rattle.lone_view.specs.Seeing.{Lone, seen_alone}
use Rattle.mounted_views.specs.Views.{view_of}
use Rattle.peer_replay.specs.declared.planned.Plan.{Plan}
use Rattle.run_rules.specs.Follows.{Follows, history_of}
use Rattle.run_rules.specs.History.{AllPlaced, NoneStopped}
use Rattle.script_lang.specs.Script.{ScriptValue}
use Rattle.shared_disk.specs.Disk.{DiskState, IsIdle, Operation}
use Rattle.trace_text.specs.declared.item.TraceItem.{TraceItem}
use Rattle.kept_profiles.specs.WholeRunsStarts.{joined}
use Rattle.run_reports.specs.Out.{replayed_line, replayed_lines}
use Rattle.run_reports.specs.declared.status.Status.{Status}
use Rattle.run_reports.specs.declared.status.Status.TheVariants as status
use Rattle.cluster_program.specs.EndStatuses.{status_of_run}
use Rattle.cluster_program.specs.Mounting.{OfImage, IsImageOf, IsMountable, IsMountableClean, IsMountedOn, BeginEnds, is_clean_in}
use Rattle.cluster_program.specs.World.{Inputs, KeepsDisk}

-- the number in the script's text of the first line that is run, behind those of the nodes, the clients and the crashes at writes
abbrev pub first_line : ScriptValue → ℕ
first_line s = 2 + length s.clients + length s.armed

-- the disk and its list of operations
abbrev pub now_of : Inputs → Moment
now_of i = moment i.disk i.disk_list

-- ---- the run of what was mounted

-- These are the plans of the journals of what was mounted: where the disk tells its blocks, each puts what is live in its journal into its place. On every disk each
-- writes whole blocks, each once, by rising number, and its header, where it has one, at a place of its journal.
pub record ArePlansOf (disk : DiskState) (m : MountedValue) (plans : List Plan) : Type 0 where
  pub are : OfImage disk (λ im. (is : IsMounted im m) → ArePlans im is.layout plans)
  pub writable : AllByRecursion (IsWritable disk) plans
  pub headers : HavePlaces disk m.journals plans

-- How it went on the disk, on every one, also on one that tells nothing: node 1, which sees what was mounted and has the first journal, joined, replayed the journals by plans of theirs, took the lines one by one, and
-- unmounted, or stopped where it was to crash, and was fenced; or it came so far as this end tells.
pub record HasGone (given left : Inputs) (m : MountedValue) (s : ScriptValue) (time : ℕ) (items : List TraceItem) (result : Result (Unit {0}) RunEnd) : Type 0 where
  pub plans : List Plan
  pub planned : ArePlansOf given.disk m plans
  pub own : Journal
  pub plan : Plan
  pub is_own : IsOwn m.journals plans own plan
  pub goes : GoesSo s time (frames_of None) (now_of given) (view_of given.disk.size m) m.journals plans own plan (now_of left) items result

-- ---- what is told as damage

-- the image can be mounted, with the superblock and the groups of what was mounted before
pub record IsMountedAgain (im : Image) (m : MountedValue) : Type 0 where
  pub value : MountedValue
  pub mounted : IsMounted im value
  pub superblock : value.superblock ≡ m.superblock
  pub groups : value.groups ≡ m.groups

-- What a call tells as damage: a block that breaks this rule. But where a hashed directory on a path of it, as the view shows this, has a block that is beyond
-- the device, that is broken, and what is told may be another block.
pub data IsToldBroken (v : Seen) (im : Image) (call : Call) (rule block : ℕ) : Type 0 where
  itself : IsBrokenBlock im rule block → IsToldBroken v im call rule block
  beyond : HasAstrayOn v im call → IsToldBroken v im call rule block

-- the image has each block that the node has, with these bytes
pub record HasWhatIsKept (v : Seen) (im : Image) : Type 0 where
  pub agrees : AgreesWith v im
  pub inside : (b : ℕ) → HasBlock v b → b < im.count

-- A call met a block that breaks this rule, as what the node has of the blocks shows it; and that is so of each image that has what the node has, of as many blocks, with the superblock and the groups
-- that were mounted.
pub record MeetsDamage (given : DiskState) (m : MountedValue) (block rule : ℕ) : Type 0 where
  pub view : Lone
  pub call : Call
  pub shown : IsDamagedFor (seen_alone view) given.count call block rule
  pub told : (im : Image) → IsImage im → im.size ≡ given.size → im.count ≡ given.count → IsMountedAgain im m → HasWhatIsKept (seen_alone view) im → IsToldBroken (seen_alone view) im call rule block

abbrev pub IfDamaged : RunEnd → (ℕ → ℕ → Type 0) → Type 0
IfDamaged (end.Script (script_end.Damaged block rule)) P = P block rule
IfDamaged e P = ⊤

-- ---- how it ends

-- How a run ends, of what was mounted, if anything was: it came to its end, so that each line is answered or its node has stopped, each crash line has its place, and the journals that aren't clean could be
-- counted; or, behind a stop, they couldn't, since the disk failed as the run read a block of one, or there was no memory; the run didn't begin, before the first item; or it ended early, for a cause: on an image that
-- stands for a tree only for want of memory, or where the disk failed.
pub data RunEnds (given left : Inputs) (s : ScriptValue) (time : ℕ) (items : List TraceItem) : Option MountedValue → Status → Type 0 where
  IsDone : (m : MountedValue) → HasGone given left m s time items (Ok tt) → IsWholeLoneRun s items → AllAnsweredOrDown items s → AllPlaced items s → RunEnds given left s time items (Some m) status.Done
  NotCounted : (m : MountedValue) (journal : Journal) (block x y : ℕ) → HasGone given left m s time items (Ok tt) → (NoneStopped items → ⊥) → Contains m.journals journal → Contains journal.blocks block
      → WentUp (given.disk_faults 0) (left.disk_faults 0) x y → RunEnds given left s time items (Some m) (status.DeviceFault 0 (Some block) x y)
  NotBegun : (own : Status) → items ≡ [] → KeepsDisk given left → BeginEnds given.disk given.disk_faults left.disk_faults own → RunEnds given left s time items None own
  EndsEarly : (m : MountedValue) (e : RunEnd) → (gone : HasGone given left m s time items (Err e)) → HasCause given.disk.count gone.own.blocks given.disk_faults left.disk_faults e
      → ((tree : Tree) → IsImageOf given.disk tree → IsOfImageThatStands e) → IfDamaged e (MeetsDamage given.disk m) → RunEnds given left s time items (Some m) (status_of_run (first_line s) e)
  LacksRoom : (m : MountedValue) → HasGone given left m s time items (Ok tt) → (NoneStopped items → ⊥) → RunEnds given left s time items (Some m) status.NoMemory

-- ---- what holds of it

-- Where the image that was mounted stands for a tree, its journals replayed. Where no node stopped, every reply is that of this tree, which takes the calls one by one. On a disk that tells its list of operations, where the
-- fence, if there was one, left no false header: so it is with a crash too, and what was synced is kept; and behind each front of the items each outcome of the disk there stands, its journals replayed, for the tree of
-- what remains.
pub record HoldsTree (given left : Inputs) (m : MountedValue) (s : ScriptValue) (items : List TraceItem) (tree : Tree) : Type 0 where
  pub legal : NoneStopped items → Legal (history_of s.clients items) tree
  pub stood : (is : IsMounted (image_of given.disk) m) (was operations : List Operation) → given.disk_list ≡ Some was → left.disk_list ≡ Some (was ++ operations) → HasTrueFence given.disk is.layout operations
      → HasStood s.clients (now_of given) tree items operations left.disk

-- where the disk tells its blocks, the other has what a replay of what was mounted leaves: the image with what its journals say in place, but for places of the journals
abbrev pub LeavesReplayed : DiskState → MountedValue → DiskState → Type 0
LeavesReplayed disk m left = OfImage disk (λ im. (is : IsMounted im m) → IsLeft im is.layout (image_of left))

-- the journals of what was mounted are clean in the image of this disk
abbrev pub AreCleanOn : DiskState → MountedValue → Type 0
AreCleanOn left m = (j : ℕ) (journal : Journal) → slice_get m.journals j ≡ Some journal → is_clean_in (image_of left) journal ≡ true

-- behind the sequence of each head that isn't clean of what is mounted of the image there is one more that is in the profile
abbrev pub HasLowHeads : Image → Type 0
HasLowHeads im = (m : MountedValue) → IsMounted im m → HaveLowHeads m

-- the lines of the journals with these plans, from this number on: of each that isn't clean, how many blocks went home
abbrev pub line_of_plan : ℕ → List Written → Option LogHeader → List ℕ
line_of_plan journal home None = []
line_of_plan journal home (Some header) = replayed_line journal (length home)

abbrev pub lines_of_plans : ℕ → List Plan → List ℕ
lines_of_plans journal [] = []
lines_of_plans journal (p ∷ ps) = line_of_plan journal p.home.items p.clean ++ lines_of_plans (journal + 1) ps

-- no answered call changes anything
abbrev pub ChangesNothing : List TraceItem → Type 0
ChangesNothing items = AllByRecursion (λ it. is_change it ≡ false) items

-- Then nothing but the replay of all journals was written, each by its own plan; a line tells each journal that wasn't clean, and how many blocks were live in it, which went home. On a disk that tells its blocks, whether its
-- image stands for a tree or not, the image with what its journals say in place is there now, but for places of the journals, and each journal is clean. An image that could be mounted can be mounted again, its journals
-- clean, if no head that wasn't clean had the last sequence of the profile.
pub record HasReplayed (given left : Inputs) (m : MountedValue) (time : ℕ) (items : List TraceItem) : Type 0 where
  pub plans : List Plan
  pub planned : ArePlansOf given.disk m plans
  pub begun : List TraceItem
  pub replays : HaveReplayed 1 time (now_of given) (now_of left) m.journals plans joined begun
  pub told : replayed_lines items ≡ lines_of_plans 0 plans
  pub left_so : LeavesReplayed given.disk m left.disk
  pub clean : IsTrue given.disk.tells → AreCleanOn left.disk m
  pub still : IsMountable given.disk → HasLowHeads (image_of given.disk) → IsMountableClean left.disk

-- Where all was done and no node stopped: the image stands, as it lies and with its journals replayed, for the tree of all that was answered, and each journal is clean. On every disk, that is at rest then. An image that could be
-- mounted can be mounted again, its journals clean, if no head that wasn't clean had the last sequence of the profile, and each header that the items tell has one of the profile.
pub record HasCome (given left : Inputs) (m : MountedValue) (s : ScriptValue) (time : ℕ) (items : List TraceItem) : Type 0 where
  pub ended : (tree : Tree) → IsImageOf given.disk tree → (is : IsMounted (image_of given.disk) m) → HasEnded s (now_of given) m tree (now_of left) items is.layout
  pub idle : IsIdle left.disk
  pub still : IsMountable given.disk → HasLowHeads (image_of given.disk) → HaveLowSequences items → IsMountableClean left.disk
  pub unchanged : ChangesNothing items → HasReplayed given left m time items

-- where all was done so many journals are left that aren't clean
abbrev pub own_of : Result ℕ Status → Status
own_of (Ok dirty) = status.Done
own_of (Err own) = own

-- a run of the script, with this time of its changes, in seconds
pub record Runs (given left : Inputs) (s : ScriptValue) (time : ℕ) (items : List TraceItem) (own : Status) : Type 0 where
  -- what was mounted, if anything was, as it was wherever there is an item
  pub value : Option MountedValue
  pub began : items ≢ [] → IsSome value
  pub mounted : IfSome value (IsMountedOn given.disk)
  -- on every disk: the items are those of a run of one node, so they follow the script, and its calls are numbered; the disk's list gained what they tell, or, where no node stopped, one write besides that failed; and it is the same disk
  pub count : ℕ
  pub run : IsLoneRun s count items
  pub follows : Follows items s
  pub numbered : IsNumbered (history_of s.clients items)
  pub told : GainsAsTold given.disk_list left.disk_list items
  pub same : IsSameDisk given.disk left.disk
  -- where the image stands for a tree, with what its journals say in place
  pub holds : (tree : Tree) → IsImageOf given.disk tree → IfSome value (λ m. HoldsTree given left m s items tree)
  pub come : own ≡ status.Done → NoneStopped items → IfSome value (λ m. HasCome given left m s time items)
  pub ends : RunEnds given left s time items value own
