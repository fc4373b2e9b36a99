-- What came of a run: how far it came, and what it did.
use Rattle.std.specs.Prelude.{ℕ, ◌≡◌, ◌≢◌, List, [], Option, Result, Ok, Err}
use Rattle.disk_turns.specs.Turns.{Moment}
use Rattle.image_mount.specs.Mounted.{Journal}
use Rattle.image_recovery.specs.Recoveries.{HaveCrashed, HaveFailed, HaveReplayed, HaveReplayedSome}
use Rattle.logged_scripts.specs.Nodes.{IsAtCrash, IsBeforeCrash}
use Rattle.logged_scripts.specs.Crashes.{first_crash}
use Rattle.logged_scripts.specs.Runs.{HasRun}
use Rattle.logged_scripts.specs.declared.ends.RunEnd.{RunEnd as ScriptEnd}
use Rattle.logged_scripts.specs.declared.ends.RunEnd.TheVariants as script
use Rattle.lone_fences.specs.Fencing.{EndsAt, HasFenced}
use Rattle.lone_fences.specs.declared.ends.FenceEnd.{FenceEnd}
use Rattle.lone_view.specs.Seeing.{Lone}
use Rattle.logged_scripts.specs.Ends.{end_of}
use Rattle.mounted_views.specs.Views.{journal_of}
use Rattle.peer_replay.specs.declared.planned.Plan.{Plan}
use Rattle.script_lang.specs.Script.{ScriptValue}
use Rattle.shared_disk.specs.Disk.{DiskState, IsSound}
use Rattle.trace_text.specs.declared.item.TraceItem.{TraceItem}
use Rattle.logged_scripts.specs.WholeRunsStarts.{joined}
use Rattle.lone_runs.specs.Beginning.{MayHave, its_head, start_point}
use Rattle.lone_runs.specs.declared.ends.RunEnd.{RunEnd}
use Rattle.lone_runs.specs.declared.ends.RunEnd.TheVariants as end

-- ---- before the first item

-- the node has no journal that it may have on such a disk; or there was no memory
abbrev pub MayNotBegin : (count size time frames : ℕ) → Journal → Plan → RunEnd → Type 0
MayNotBegin count size time frames own plan (end.Misplaced dinode) = (dinode ≡ own.dinode) × (MayHave count (journal_of size frames time own) (its_head size time own plan) → ⊥)
MayNotBegin count size time frames own plan (end.Script e) = e ≡ script.NoMemory
MayNotBegin count size time frames own plan (end.ReplayFailed block rise) = ⊥

-- how it ends that carried out its script so
abbrev pub as_end : Result (Unit {0}) ScriptEnd → Result (Unit {0}) RunEnd
as_end (Ok u) = Ok u
as_end (Err e) = Err (end.Script e)

-- ---- how far it came

-- It didn't join; it joined, and in the replays there was no memory, the disk failed, or it crashed, directly behind the write at which it was to, and was fenced, with the loss of no call; or all journals were
-- replayed, and it carried out the script from there. Where it didn't crash in the replays, it hadn't come to the write of the first crash.
pub data GoesSo (s : ScriptValue) (time frames : ℕ) (before : Moment) (view : Lone) (journals : List Journal) (plans : List Plan) (own : Journal) (plan : Plan) (after : Moment) (items : List TraceItem) : Result (Unit {0}) RunEnd → Type 0 where
  not_joined : (e : RunEnd) → after ≡ before → items ≡ [] → MayNotBegin before.disk.count before.disk.size time frames own plan e → GoesSo s time frames before view journals plans own plan after items (Err e)
  no_memory : HaveReplayedSome 1 time before after journals plans joined items → IsBeforeCrash (first_crash s.armed) items
      → GoesSo s time frames before view journals plans own plan after items (Err (end.Script script.NoMemory))
  disk_failed : (block : Option ℕ) (rise : _) → HaveFailed 1 time before after journals plans joined items block → IsBeforeCrash (first_crash s.armed) items
      → GoesSo s time frames before view journals plans own plan after items (Err (end.ReplayFailed block rise))
  crashed : (stopped : Moment) (told : List TraceItem) → HaveCrashed 1 time before stopped journals plans joined told → IsAtCrash (first_crash s.armed) told
      → HasFenced stopped.disk stopped.list told own.blocks own.head.sequence after.disk after.list items → GoesSo s time frames before view journals plans own plan after items (Ok tt)
  not_fenced : (stopped : Moment) (told : List TraceItem) (e : FenceEnd) → HaveCrashed 1 time before stopped journals plans joined told → IsAtCrash (first_crash s.armed) told
      → EndsAt stopped.disk stopped.list told after.disk after.list items e → GoesSo s time frames before view journals plans own plan after items (Err (end.Script (end_of e)))
  ran : (replayed : Moment) (begun : List TraceItem) (result : Result (Unit {0}) ScriptEnd) → HaveReplayed 1 time before replayed journals plans joined begun → IsSound replayed.disk
      → HasRun s time (start_point replayed view own plan time frames begun) after.disk after.list items result → GoesSo s time frames before view journals plans own plan after items (as_end result)

-- ---- the disk

-- It is the same disk, whatever its blocks hold; and of the other nodes none is fenced that wasn't, and none has anything in flight that hadn't.
pub record IsSameDisk (d d' : DiskState) : Type 0 where
  pub size : d'.size ≡ d.size
  pub count : d'.count ≡ d.count
  pub tells : d'.tells ≡ d.tells
  pub fenced : (node : ℕ) → node ≢ 1 → d'.is_fenced node ≡ d.is_fenced node
  pub flying : (node : ℕ) → node ≢ 1 → d'.in_flight node ≡ d.in_flight node
