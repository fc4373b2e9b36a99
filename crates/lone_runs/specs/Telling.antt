-- What a run of one node tells on every disk: its replays first, its clean header last, and its damage by what it has.
use Rattle.std.specs.Prelude.{ℕ, ⊤, ◌≡◌, ◌≤◌, ◌++◌, List, [], ◌∷◌, Result, Ok, Err}
use Rattle.std.specs.List.{AllByRecursion}
use Rattle.disk_turns.specs.Turns.{Moment}
use Rattle.file_tree.specs.declared.call.Call.{Call}
use Rattle.image_model.specs.Image.{image_of}
use Rattle.image_mount.specs.Mounted.{IsMounted, Journal, MountedValue}
use Rattle.image_recovery.specs.Recoveries.{CanReplayAll, HaveReplayed}
use Rattle.image_replays.specs.Replays.{ArePlans}
use Rattle.gfs2_layout.specs.Device.{IsBlockSize}
use Rattle.logged_scripts.specs.Faults.{IsDamagedFor}
use Rattle.lone_view.specs.Seeing.{Lone, seen_alone}
use Rattle.logged_scripts.specs.declared.ends.RunEnd.TheVariants as script
use Rattle.mounted_views.specs.Views.{journal_of}
use Rattle.peer_replay.specs.declared.planned.Plan.{Plan}
use Rattle.profile_limits.specs.Limits.{most_frames}
use Rattle.run_rules.specs.History.{NoneStopped}
use Rattle.script_lang.specs.Script.{ScriptValue}
use Rattle.shared_disk.specs.Disk.{DiskState, IsIdle}
use Rattle.trace_text.specs.declared.item.TraceItem.{TraceItem}
use Rattle.trace_text.specs.declared.item.TraceItem.TheVariants as trace
use Rattle.logged_scripts.specs.WholeRunsStarts.{joined}
use Rattle.lone_runs.specs.Beginning.{IsOwn, MayHave, its_head}
use Rattle.lone_runs.specs.Runs.{GoesSo}
use Rattle.lone_runs.specs.declared.ends.RunEnd.{RunEnd}
use Rattle.lone_runs.specs.declared.ends.RunEnd.TheVariants as end

-- ---- its items

-- it isn't that a journal is recovered
abbrev pub IsNoRecovery : TraceItem → Type 0
IsNoRecovery (trace.Recovered node by) = ⊥
IsNoRecovery _ = ⊤

-- it is no commit
abbrev pub IsNoCommit : TraceItem → Type 0
IsNoCommit (trace.Commit node sequence upto) = ⊥
IsNoCommit _ = ⊤

-- nothing was committed; or the last of it is the clean header, with its barrier
pub data EndsClean : List TraceItem → Type 0 where
  no_commit : (items : List TraceItem) → AllByRecursion IsNoCommit items → EndsClean items
  clean_header : (before : List TraceItem) (block sequence upto : ℕ) → EndsClean (before ++ trace.WriteClean 1 block sequence upto ∷ trace.Barrier 1 ∷ [])

-- all journals were replayed, and behind the items of that no further recovery is told, and the journal is left clean
pub record TellsItsReplays (time : ℕ) (before : Moment) (journals : List Journal) (plans : List Plan) (items : List TraceItem) : Type 0 where
  pub replayed : Moment
  pub begun : List TraceItem
  pub replays : HaveReplayed 1 time before replayed journals plans joined begun
  pub more : List TraceItem
  pub are : items ≡ begun ++ more
  pub no_recovery : AllByRecursion IsNoRecovery more
  pub clean : EndsClean more

-- So it is of a run that came to its end without a stop.
abbrev pub RunsTellTheirReplays : Type 0
RunsTellTheirReplays = (s : ScriptValue) (time frames : ℕ) (before : Moment) (view : Lone) (journals : List Journal) (plans : List Plan) (own : Journal) (plan : Plan) (after : Moment) (items : List TraceItem)
    → GoesSo s time frames before view journals plans own plan after items (Ok tt) → NoneStopped items → TellsItsReplays time before journals plans items

-- ---- its damage

-- A call met this block as one that breaks this rule, as what the node had by then shows it, of a device of so many blocks: what mounting told, and blocks.
pub record SeesDamage (view : Lone) (count block rule : ℕ) : Type 0 where
  pub seen : Lone
  pub size : seen.size ≡ view.size
  pub root : seen.root ≡ view.root
  pub groups : seen.groups ≡ view.groups
  pub call : Call
  pub shown : IsDamagedFor (seen_alone seen) count call block rule

-- So it is where a run tells it.
abbrev pub RunsSeeTheirDamage : Type 0
RunsSeeTheirDamage = (s : ScriptValue) (time frames : ℕ) (before : Moment) (view : Lone) (journals : List Journal) (plans : List Plan) (own : Journal) (plan : Plan) (after : Moment) (items : List TraceItem) (block rule : ℕ)
    → after.disk.count ≡ before.disk.count → GoesSo s time frames before view journals plans own plan after items (Err (end.Script (script.Damaged block rule))) → SeesDamage view before.disk.count block rule

-- ---- where it begins

-- Node 1 may have the first journal of an image that was mounted, right or wrong, with the head that its plan leaves.
abbrev pub MountedJournalsServe : Type 0
MountedJournalsServe = (disk : DiskState) (m : MountedValue) (plans : List Plan) (own : Journal) (plan : Plan) (time frames : ℕ) → IsIdle disk → IsBlockSize disk.size → (is : IsMounted (image_of disk) m) → ArePlans (image_of disk) is.layout plans
    → CanReplayAll disk m.journals plans → IsOwn m.journals plans own plan → frames ≤ most_frames → MayHave disk.count (journal_of disk.size frames time own) (its_head disk.size time own plan)
