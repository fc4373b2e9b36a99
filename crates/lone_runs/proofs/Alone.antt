-- What comes of a run, by how far it came.
use Rattle.std.proofs.Common.{◌≡◌, ℕ, ◌<◌, ◌≤◌, false, List, [], length, get_or, Option, Some, refl, sym, ap, subst, ◌∙◌, arith}
use Rattle.std.specs.Prelude.{Result, Ok, Err}
use Rattle.std.specs.List.{All, AllByRecursion}
use Rattle.std.proofs.lemmas.List.Elements.{All-from_get_or}
use Rattle.disk_turns.specs.Turns.{Moment}
use Rattle.fault_counts.specs.Causes.{WentUp}
use Rattle.fault_counts.specs.declared.Rise.{Rise}
use Rattle.image_mount.specs.Mounted.{Journal}
use Rattle.image_recovery.specs.Recoveries.{CanReplayAll, HaveCrashed, HaveFailed, HaveReplayed, HaveReplayedSome}
use Rattle.image_recovery.proofs.Recovered.{as_many, at_item}
use Rattle.journal_replays.specs.Crashes as replays
use Rattle.journal_replays.specs.Faults.{IfCrashed, IfDiskFailed, IfNoMemory}
use Rattle.journal_replays.specs.declared.faults.ReplayFault.{ReplayFault}
use Rattle.journal_replays.specs.declared.faults.ReplayFault.TheVariants as fault
use Rattle.logged_scripts.specs.Nodes.{IsAtCrash, IsBeforeCrash, crash_of, writes_in}
use Rattle.logged_scripts.specs.Points.{Point}
use Rattle.logged_scripts.specs.Crashes.{first_crash}
use Rattle.logged_scripts.specs.Ends as scripts
use Rattle.logged_scripts.specs.Ends.{end_of}
use Rattle.logged_scripts.specs.Runs.{HasRun}
use Rattle.logged_scripts.specs.declared.ends.RunEnd.{RunEnd as ScriptEnd}
use Rattle.logged_scripts.specs.declared.ends.RunEnd.TheVariants as script
use Rattle.lone_fences.specs.Ends as fences
use Rattle.lone_fences.specs.Fencing.{EndsAt, HasFenced}
use Rattle.lone_fences.specs.declared.ends.FenceEnd.{FenceEnd}
use Rattle.lone_fences.specs.declared.ends.FenceEnd.TheVariants as fence_end
use Rattle.lone_scripts.specs.Runs.{IsLoneRun, IsWholeLoneRun}
use Rattle.lone_view.specs.Seeing.{Lone}
use Rattle.mounted_views.specs.Views.{journal_of}
use Rattle.peer_replay.specs.declared.planned.Plan.{Plan}
use Rattle.script_lang.specs.Script.{ScriptValue}
use Rattle.script_lang.specs.declared.script.Armed.{Armed}
use Rattle.shared_disk.specs.Disk.{DiskState, IsIdle, IsSound, Operation}
use Rattle.trace_text.specs.declared.item.TraceItem.{TraceItem}
use Rattle.logged_scripts.specs.WholeRunsStarts.{joined}
use Rattle.lone_runs.specs.Beginning.{IsOwn, MayHave, its_head, start_point}
use Rattle.lone_runs.specs.Ends.{HasCause}
use Rattle.lone_runs.specs.Runs.{GoesSo, IsSameDisk, MayNotBegin, crashed, disk_failed, no_memory, not_fenced, not_joined, ran}
use Rattle.lone_runs.specs.declared.ends.RunEnd.{RunEnd}
use Rattle.lone_runs.specs.declared.ends.RunEnd.TheVariants as end
use Rattle.lone_runs.proofs.Begun.{at_crash, same_crash}
use Rattle.lone_runs.proofs.Disks.{IsStill, behind_run_same, crashed_same, ends_same, fenced_same, replayed_same, same_on}
use Rattle.lone_runs.proofs.Members.{before_runs, crashed_start, failed_start, fenced_run, fenced_whole, some_start, unfenced_run}

some_is : {A : Type 0} {x y : A} → Some x ≡ Some y → x ≡ y
some_is e = cc

-- ---- the first journal

pub owns : (d : DiskState) (journals : List Journal) (plans : List Plan) (own : Journal) (plan : Plan) → 1 ≤ length journals → CanReplayAll d journals plans → own ≡ get_or journals 0 own → plan ≡ get_or plans 0 plan
    → IsOwn journals plans own plan
owns d journals plans own plan some can is_own is_plan = record {
  journal = at_item journals journals 0 own refl some is_own;
  planned = at_item plans plans 0 plan refl (many (length plans) (length journals) (as_many d journals plans can) some) is_plan;
}
  where
    many : (x y : ℕ) → x ≡ y → 1 ≤ y → 1 ≤ x
    many x y e h = omega (arith, e, h)

-- the places of a journal that a node may have are blocks of the disk
pub places_inside : (count size frames time : ℕ) (own : Journal) (plan : Plan) → MayHave count (journal_of size frames time own) (its_head size time own plan) → All (λ b. b < count) own.blocks
places_inside count size frames time own plan has = All-from_get_or (λ b. b < count) own.blocks 0 (λ p low. has.placed.inside p low)

-- ---- where it is to crash

-- with as many writes left behind the join as there are until the first crash
pub crash_is : (s : ScriptValue) (left : Option ℕ) (items : List TraceItem) (armed : List Armed) → items ≡ joined → armed ≡ s.armed → ((xs : List TraceItem) → writes_in xs ≡ 0 → crash_of left xs ≡ first_crash armed)
    → replays.crash_of 1 left items ≡ first_crash s.armed
crash_is s left items armed are same leaves = same_crash left items ∙ leaves items (ap writes_in are) ∙ ap first_crash same

-- what a fault says
module _ (time : ℕ) (before now : Moment) (journals : List Journal) (plans : List Plan) (items items' : List TraceItem) (are : items ≡ joined) (crash : Option ℕ) (f : ReplayFault) where
  pub crash_there : f ≡ fault.Crashed → IfCrashed f (HaveCrashed 1 time before now journals plans items items') → HaveCrashed 1 time before now journals plans joined items'
  crash_there is have =
      let it : HaveCrashed 1 time before now journals plans items items' = subst (λ x. IfCrashed x (HaveCrashed 1 time before now journals plans items items')) is have in
      subst (λ xs. HaveCrashed 1 time before now journals plans xs items') are it

  pub crash_when : f ≡ fault.Crashed → replays.StopsByCrash 1 crash items' f → replays.IsAtCrash 1 crash items'
  crash_when is stops = subst (replays.StopsByCrash 1 crash items') is stops

  pub fail_there : (block : Option ℕ) (rise : Rise) → f ≡ fault.DiskFailed block rise → IfDiskFailed f (HaveFailed 1 time before now journals plans items items') → HaveFailed 1 time before now journals plans joined items' block
  fail_there block rise is have =
      let it : HaveFailed 1 time before now journals plans items items' block = subst (λ x. IfDiskFailed x (HaveFailed 1 time before now journals plans items items')) is have in
      subst (λ xs. HaveFailed 1 time before now journals plans xs items' block) are it

  pub fail_when : (block : Option ℕ) (rise : Rise) → f ≡ fault.DiskFailed block rise → replays.StopsByCrash 1 crash items' f → replays.IsBeforeCrash 1 crash items'
  fail_when block rise is stops = subst (replays.StopsByCrash 1 crash items') is stops

  pub lack_there : f ≡ fault.NoMemory → IfNoMemory f (HaveReplayedSome 1 time before now journals plans items items') → HaveReplayedSome 1 time before now journals plans joined items'
  lack_there is have =
      let it : HaveReplayedSome 1 time before now journals plans items items' = subst (λ x. IfNoMemory x (HaveReplayedSome 1 time before now journals plans items items')) is have in
      subst (λ xs. HaveReplayedSome 1 time before now journals plans xs items') are it

  pub lack_when : f ≡ fault.NoMemory → replays.StopsByCrash 1 crash items' f → replays.IsBeforeCrash 1 crash items'
  lack_when is stops = subst (replays.StopsByCrash 1 crash items') is stops

-- the blocks and the sequence are the journal's
pub fenced_as : (d d' : DiskState) (list list' : Option (List Operation)) (items items' : List TraceItem) (blocks blocks' : List ℕ) (first first' : ℕ) → blocks ≡ blocks' → first ≡ first' → HasFenced d list items blocks first d' list' items'
    → HasFenced d list items blocks' first' d' list' items'
fenced_as d d' list list' items items' blocks blocks' first first' same one hf =
    subst (λ n. HasFenced d list items blocks' n d' list' items') one (subst (λ bs. HasFenced d list items bs first d' list' items') same hf)

-- node 1 is not the run itself
pub run_is_free : (d d' : DiskState) → IsSameDisk d d' → IsIdle d → d'.is_fenced 0 ≡ false
run_is_free d d' same idle = same.fenced 0 (λ e. zero_one e) ∙ idle.none_fenced 0
  where
    zero_one : ◌≡◌ {A = ℕ} 0 1 → ⊥
    zero_one e = omega (arith, e)

-- ---- how far it came

-- that, whichever are the first journal and its plan
abbrev pub Goes : (s : ScriptValue) (time frames : ℕ) (before : Moment) (view : Lone) (journals : List Journal) (plans : List Plan) (after : Moment) (items : List TraceItem) → Result (Unit {0}) RunEnd → Type 0
Goes s time frames before view journals plans after items r = (own : Journal) (plan : Plan) → IsOwn journals plans own plan → GoesSo s time frames before view journals plans own plan after items r

module _ (s : ScriptValue) (time frames : ℕ) (before : Moment) (view : Lone) (journals : List Journal) (plans : List Plan) (own : Journal) (plan : Plan) (its : IsOwn journals plans own plan) where
  goes_of : (after : Moment) (items : List TraceItem) (r : Result (Unit {0}) RunEnd) → GoesSo s time frames before view journals plans own plan after items r → Goes s time frames before view journals plans after items r
  goes_of after items r goes o p is =
      subst (λ x. GoesSo s time frames before view journals plans x p after items r) (some_is (sym its.journal ∙ is.journal))
      (subst (λ x. GoesSo s time frames before view journals plans own x after items r) (some_is (sym its.planned ∙ is.planned)) goes)

  pub goes_nowhere : (items : List TraceItem) (r : Result (Unit {0}) RunEnd) (e : RunEnd) → r ≡ Err e → items ≡ [] → MayNotBegin before.disk.count before.disk.size time frames own plan e → Goes s time frames before view journals plans before items r
  goes_nowhere items r e same none may = subst (Goes s time frames before view journals plans before items) (sym same) (goes_of before items (Err e) (not_joined e refl none may))

  -- all journals were replayed
  module _ (now : Moment) (begun : List TraceItem) (have : HaveReplayed 1 time before now journals plans joined begun) (sound : IsSound now.disk) (from : Point) (there : from ≡ start_point now view own plan time frames begun) (after : Moment) (items : List TraceItem) where
    there_run : (r : Result (Unit {0}) ScriptEnd) → HasRun s time from after.disk after.list items r → HasRun s time (start_point now view own plan time frames begun) after.disk after.list items r
    there_run r run = subst (λ a. HasRun s time a after.disk after.list items r) there run

    pub goes_through : (u : Unit {0}) → HasRun s time from after.disk after.list items (Ok u) → Goes s time frames before view journals plans after items (Ok u)
    goes_through u run = goes_of after items (Ok u) (ran now begun (Ok u) have sound (there_run (Ok u) run))

    pub goes_to_end : (e : ScriptEnd) → HasRun s time from after.disk after.list items (Err e) → Goes s time frames before view journals plans after items (Err (end.Script e))
    goes_to_end e run = goes_of after items (Err (end.Script e)) (ran now begun (Err e) have sound (there_run (Err e) run))

    pub ran_same : IsStill before.disk → (r : Result (Unit {0}) ScriptEnd) → HasRun s time from after.disk after.list items r → IsSameDisk before.disk after.disk
    ran_same still r run =
        let so = there_run r run in
        same_on before.disk now.disk after.disk (replayed_same time before now journals plans begun still have)
        (behind_run_same time (start_point now view own plan time frames begun) so.last so.left after.disk after.list items so.goes.steps so.goes.goes so.behind)

  -- it came no further than its replays
  module _ (armed : AllByRecursion (λ (a : Armed). 1 ≤ a.write) s.armed) (still : IsStill before.disk) (now : Moment) (items : List TraceItem) (crash : Option ℕ) (crash_so : crash ≡ first_crash s.armed) where
    early : replays.IsBeforeCrash 1 crash items → IsBeforeCrash (first_crash s.armed) items
    early is = subst (λ k. IsBeforeCrash k items) crash_so is

    late : replays.IsAtCrash 1 crash items → IsAtCrash (first_crash s.armed) items
    late is = subst (λ k. IsAtCrash k items) crash_so (at_crash crash items is)

    -- for want of memory
    module _ (some : HaveReplayedSome 1 time before now journals plans joined items) (is : replays.IsBeforeCrash 1 crash items) where
      pub starved_goes : Goes s time frames before view journals plans now items (Err (end.Script script.NoMemory))
      starved_goes = goes_of now items (Err (end.Script script.NoMemory)) (no_memory some (early is))

      pub starved_lone : (count : ℕ) × IsLoneRun s count items
      starved_lone = (0, before_runs s armed items (some_start time before now journals plans items some) (early is))

    -- for the disk
    module _ (block : Option ℕ) (failed : HaveFailed 1 time before now journals plans joined items block) (is : replays.IsBeforeCrash 1 crash items) where
      pub failed_goes : (rise : Rise) → Goes s time frames before view journals plans now items (Err (end.ReplayFailed block rise))
      failed_goes rise = goes_of now items (Err (end.ReplayFailed block rise)) (disk_failed block rise failed (early is))

      pub failed_lone : (count : ℕ) × IsLoneRun s count items
      failed_lone = (0, before_runs s armed items (failed_start time before now journals plans items block failed) (early is))

    -- for a crash
    module _ (it : HaveCrashed 1 time before now journals plans joined items) (is : replays.IsAtCrash 1 crash items) (after : Moment) (items' : List TraceItem) where
      pub there_same : IsSameDisk before.disk now.disk
      there_same = crashed_same time before now journals plans items still it

      pub fenced_goes : HasFenced now.disk now.list items own.blocks own.head.sequence after.disk after.list items' → Goes s time frames before view journals plans after items' (Ok tt)
      fenced_goes hf = goes_of after items' (Ok tt) (crashed now items it (late is) hf)

      pub fence_same : HasFenced now.disk now.list items own.blocks own.head.sequence after.disk after.list items' → IsSameDisk before.disk after.disk
      fence_same hf = same_on before.disk now.disk after.disk there_same (fenced_same now.disk after.disk now.list after.list hf.fenced)

      pub fence_lone : HasFenced now.disk now.list items own.blocks own.head.sequence after.disk after.list items' → (count : ℕ) × IsLoneRun s count items'
      fence_lone hf = (0, fenced_run s armed items (crashed_start time before now journals plans items it) (late is) now.disk after.disk now.list after.list own.blocks own.head.sequence items' hf)

      pub fence_whole : HasFenced now.disk now.list items own.blocks own.head.sequence after.disk after.list items' → IsWholeLoneRun s items'
      fence_whole hf = fenced_whole s armed items (crashed_start time before now journals plans items it) (late is) now.disk after.disk now.list after.list own.blocks own.head.sequence items' hf

      module _ (e : FenceEnd) (ends : EndsAt now.disk now.list items after.disk after.list items' e) where
        pub unfenced_goes : Goes s time frames before view journals plans after items' (Err (end.Script (end_of e)))
        unfenced_goes = goes_of after items' (Err (end.Script (end_of e))) (not_fenced now items e it (late is) ends)

        pub unfenced_same : IsSameDisk before.disk after.disk
        unfenced_same = same_on before.disk now.disk after.disk there_same (ends_same now.disk after.disk now.list after.list items items' e ends)

        pub unfenced_lone : (count : ℕ) × IsLoneRun s count items'
        unfenced_lone = (0, unfenced_run s armed items (crashed_start time before now journals plans items it) (late is) now.disk after.disk now.list after.list own.blocks own.head.sequence items' e ends)

-- ---- causes

-- counts that have not fallen before
pub rose_later : (first before now x y : ℕ) → first ≤ before → WentUp before now x y → WentUp first now x y
rose_later first before now x y later went = record { from = low first before x later went.from; rose = went.rose; to = went.to }
  where
    low : (a b c : ℕ) → a ≤ b → b ≤ c → a ≤ c
    low a b c h k = omega (arith, h, k)

module _ (first before now : ℕ → ℕ) (later : (i : ℕ) → first i ≤ before i) (count : ℕ) (blocks : List ℕ) where
  cause_later : (e : ScriptEnd) → scripts.HasCause count blocks before now e → scripts.HasCause count blocks first now e
  cause_later (script.ReadFailed block rise) is = (rose_later (first 1) (before 1) (now 1) rise.before rise.after (later 1) is.0, is.1)
  cause_later (script.WriteFailed block rise) is = (rose_later (first 1) (before 1) (now 1) rise.before rise.after (later 1) is.0, is.1)
  cause_later (script.NotFenced rise) is = rose_later (first 0) (before 0) (now 0) rise.before rise.after (later 0) is
  cause_later (script.HeadUnread block rise) is = (rose_later (first 0) (before 0) (now 0) rise.before rise.after (later 0) is.0, is.1)
  cause_later _ is = tt

  fence_cause : (e : FenceEnd) → fences.HasCause blocks before now e → scripts.HasCause count blocks first now (end_of e)
  fence_cause (fence_end.NotFenced rise) is = rose_later (first 0) (before 0) (now 0) rise.before rise.after (later 0) is
  fence_cause (fence_end.ReadFailed block rise) is = (rose_later (first 0) (before 0) (now 0) rise.before rise.after (later 0) is.0, is.1)
  fence_cause fence_end.NoMemory is = tt

-- that, whichever is the first journal
abbrev pub IsCaused : (journals : List Journal) (plans : List Plan) (count : ℕ) (before now : ℕ → ℕ) → RunEnd → Type 0
IsCaused journals plans count before now e = (own : Journal) (plan : Plan) → IsOwn journals plans own plan → HasCause count own.blocks before now e

module _ (journals : List Journal) (plans : List Plan) (own : Journal) (plan : Plan) (its : IsOwn journals plans own plan) (first before now : ℕ → ℕ) (later : (i : ℕ) → first i ≤ before i) (count : ℕ) where
  caused_of : (e : RunEnd) → HasCause count own.blocks first now e → IsCaused journals plans count first now e
  caused_of e is o p at = subst (λ (x : Journal). HasCause count x.blocks first now e) (some_is (sym its.journal ∙ at.journal)) is

  pub script_caused : (there : ℕ) → there ≡ count → (e : ScriptEnd) → scripts.HasCause there own.blocks before now e → IsCaused journals plans count first now (end.Script e)
  script_caused there same e is = caused_of (end.Script e) (cause_later first before now later count own.blocks e (subst (λ n. scripts.HasCause n own.blocks before now e) same is))

  pub fence_caused : (e : FenceEnd) → fences.HasCause own.blocks before now e → IsCaused journals plans count first now (end.Script (end_of e))
  fence_caused e is = caused_of (end.Script (end_of e)) (fence_cause first before now later count own.blocks e is)
