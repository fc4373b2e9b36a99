-- What a start, and a crash in its replays, are to the script.
use Rattle.std.proofs.Common.{◌≡◌, ℕ, ◌+◌, ◌≤◌, List, [], ◌∷◌, ◌++◌, Option, take, sym, ap, subst, ◌∙◌, inl, inr}
use Rattle.std.specs.List.{AllByRecursion}
use Rattle.disk_turns.specs.Turns.{Moment}
use Rattle.image_mount.specs.Mounted.{Journal}
use Rattle.image_recovery.specs.Recoveries.{HaveCrashed, HaveFailed, HaveReplayed, HaveReplayedSome}
use Rattle.logged_scripts.specs.Nodes.{IsAtCrash, IsBeforeCrash}
use Rattle.logged_scripts.specs.Starts.{IsOfReplay}
use Rattle.logged_scripts.specs.Crashes.{first_crash}
use Rattle.logged_scripts.proofs.Beginning.{members, no_call_lines}
use Rattle.logged_scripts.proofs.Crashing.{crashes_there, none_past, none_past_there}
use Rattle.lone_fences.specs.Fencing.{EndsAt, HasFenced}
use Rattle.lone_fences.specs.declared.ends.FenceEnd.{FenceEnd}
use Rattle.lone_fences.specs.declared.ends.FenceEnd.TheVariants as fence_end
use Rattle.lone_scripts.specs.Runs.{HasCrashed, IsBehindCrash, IsLoneRun, IsNotPast, IsWholeLoneRun, Runs}
use Rattle.lone_scripts.specs.Runs as lone
use Rattle.lone_scripts.proofs.GoingOn.{lone_runs_begin, other_items_go_on}
use Rattle.peer_replay.specs.declared.planned.Plan.{Plan}
use Rattle.script_lang.specs.Script.{ScriptValue}
use Rattle.script_lang.specs.declared.script.Armed.{Armed}
use Rattle.shared_disk.specs.Disk.{DiskState, Operation}
use Rattle.trace_text.specs.declared.item.TraceItem.{TraceItem}
use Rattle.trace_text.specs.declared.item.TraceItem.TheVariants as trace
use Rattle.logged_scripts.specs.WholeRunsStarts.{joined}
use Rattle.logged_scripts.proofs.Items.{all_join, of_replays, of_stopped}
use Rattle.logged_scripts.proofs.Starting.{stopped_by}

-- ---- items of a start

-- behind the join come items of replays
pub record IsOfStart (items : List TraceItem) : Type 0 where
  pub replays : List TraceItem
  pub are : items ≡ trace.Join 1 ∷ replays
  pub of_replay : AllByRecursion IsOfReplay replays

module _ (time : ℕ) (before after : Moment) (journals : List Journal) (plans : List Plan) (items : List TraceItem) where
  pub replayed_start : HaveReplayed 1 time before after journals plans joined items → IsOfStart items
  replayed_start have = record { replays = have.added; are = have.are; of_replay = of_replays 1 time before after journals plans have.added have.replays }

  pub some_start : HaveReplayedSome 1 time before after journals plans joined items → IsOfStart items
  some_start some = record {
    replays = some.replayed.added;
    are = some.replayed.are;
    of_replay = of_replays 1 time before after (take some.count journals) (take some.count plans) some.replayed.added some.replayed.replays;
  }

  pub failed_start : (block : Option ℕ) → HaveFailed 1 time before after journals plans joined items block → IsOfStart items
  failed_start block it =
      let at = stopped_by (it.count + 1) time it.journal.dinode it.journal.blocks it.between after it.plan block it.failed.added it.failed.stopped in
      record {
        replays = it.replayed.added ++ it.failed.added;
        are = it.failed.are ∙ ap (λ xs. xs ++ it.failed.added) it.replayed.are;
        of_replay = all_join it.replayed.added it.failed.added (of_replays 1 time before it.between (take it.count journals) (take it.count plans) it.replayed.added it.replayed.replays)
            (of_stopped it.between after it.plan.home.items _ block it.failed.added at.2);
      }

  pub crashed_start : HaveCrashed 1 time before after journals plans joined items → IsOfStart items
  crashed_start it = record {
    replays = it.replayed.added ++ it.crashed.added;
    are = it.crashed.are ∙ ap (λ xs. xs ++ it.crashed.added) it.replayed.are;
    of_replay = all_join it.replayed.added it.crashed.added (of_replays 1 time before it.between (take it.count journals) (take it.count plans) it.replayed.added it.replayed.replays)
        (of_stopped it.between after it.plan.home.items _ it.crashed.block it.crashed.added it.crashed.stopped);
  }

-- ---- the script

-- the join is past no write at which the node is to crash
join_not_past : (armed : List Armed) → AllByRecursion (λ (a : Armed). 1 ≤ a.write) armed → AllByRecursion (IsNotPast (trace.Join 1 ∷ [])) armed
join_not_past [] all = tt
join_not_past (a ∷ later) all = (inl all.0, join_not_past later all.1)

module _ (s : ScriptValue) (some : AllByRecursion (λ (a : Armed). 1 ≤ a.write) s.armed) (items : List TraceItem) (is : IsOfStart items) where
  start_runs : AllByRecursion (IsNotPast items) s.armed → Runs s 0 items
  start_runs past =
      subst (Runs s 0) (sym is.are)
      (other_items_go_on s 0 (trace.Join 1 ∷ []) is.replays (lone_runs_begin s (join_not_past s.armed some)) (members is.replays is.of_replay) (no_call_lines is.replays is.of_replay)
      (subst (λ xs. AllByRecursion (IsNotPast xs) s.armed) is.are past))

  -- before the first crash the node runs
  pub before_runs : IsBeforeCrash (first_crash s.armed) items → IsLoneRun s 0 items
  before_runs early = lone.running 0 items (start_runs (none_past s.armed items early))

  -- at it too, and so it crashes there
  module _ (at : IsAtCrash (first_crash s.armed) items) where
    there_runs : Runs s 0 items
    there_runs = start_runs (none_past_there s.armed items at)

    crashed_with : (behind : List TraceItem) → IsBehindCrash behind → (items' : List TraceItem) → items' ≡ items ++ trace.Crash 1 ∷ behind → HasCrashed s 0 items'
    crashed_with behind is_behind items' are = record { before = items; runs = there_runs; crashes = crashes_there s 0 items at; behind = behind; is_behind = is_behind; are = are }

    module _ (d d' : DiskState) (list list' : Option (List Operation)) (blocks : List ℕ) (first : ℕ) (items' : List TraceItem) where
      its_loss : HasFenced d list items blocks first d' list' items' → HasCrashed s 0 items'
      its_loss hf = crashed_with (trace.Fence 1 ∷ trace.Lost 1 hf.kept ∷ []) (lone.lost hf.kept) items' hf.told

      pub fenced_run : HasFenced d list items blocks first d' list' items' → IsLoneRun s 0 items'
      fenced_run hf = lone.crashed 0 items' (its_loss hf)

      pub fenced_whole : HasFenced d list items blocks first d' list' items' → IsWholeLoneRun s items'
      fenced_whole hf = lone.stopped 0 (its_loss hf)

      pub unfenced_run : (e : FenceEnd) → EndsAt d list items d' list' items' e → IsLoneRun s 0 items'
      unfenced_run (fence_end.NotFenced rise) ends = lone.crashed 0 items' (crashed_with [] lone.nothing items' ends.are)
      unfenced_run (fence_end.ReadFailed block rise) ends = lone.crashed 0 items' (crashed_with (trace.Fence 1 ∷ []) lone.fenced items' ends.told)
      unfenced_run fence_end.NoMemory (inl ends) = subst (IsLoneRun s 0) (sym ends.are) (lone.running 0 items there_runs)
      unfenced_run fence_end.NoMemory (inr ends) = lone.crashed 0 items' (crashed_with (trace.Fence 1 ∷ []) lone.fenced items' ends.told)
