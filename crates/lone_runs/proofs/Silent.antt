-- Runs without a stop: what they answered is legal, and where nothing changed nothing was written.
use Rattle.std.proofs.Common.{◌≡◌, ℕ, ◌+◌, List, [], ◌∷◌, ◌++◌, take, false, Option, refl, sym, ap, subst, ◌∙◌, inl, inr}
use Rattle.std.specs.Prelude.{Result, Ok}
use Rattle.std.specs.List.{AllByRecursion}
use Rattle.cluster_history.specs.History.{Legal}
use Rattle.disk_turns.specs.Turns.{Moment}
use Rattle.file_tree.specs.Tree.{Tree}
use Rattle.image_mount.specs.Mounted.{MountedValue}
use Rattle.image_recovery.specs.Laws.{CrashedAreAsFailed}
use Rattle.image_recovery.specs.Recoveries.{HaveCrashed, HaveFailed, HaveReplayed, HaveReplayedSome}
use Rattle.logged_scripts.specs.LoggedRunsLaws.{CallsAreCounted, RunsBeginSo}
use Rattle.logged_scripts.specs.Points.{Point}
use Rattle.logged_scripts.proofs.LoggedRunsStarting.{no_calls}
use Rattle.logged_scripts.specs.Runs.{IsBehind, crash, fence, is_change, loss, nothing}
use Rattle.lone_fences.specs.Fencing.{EndsAt}
use Rattle.lone_fences.specs.declared.ends.FenceEnd.{FenceEnd}
use Rattle.lone_fences.specs.declared.ends.FenceEnd.TheVariants as fence_end
use Rattle.mounted_views.specs.Views.{view_of}
use Rattle.peer_replay.specs.declared.planned.Plan.{Plan}
use Rattle.run_rules.specs.Follows.{history_of}
use Rattle.run_rules.specs.History.{NoneStopped}
use Rattle.script_lang.specs.Script.{ScriptValue}
use Rattle.script_lang.specs.declared.script.Client.{Client}
use Rattle.shared_disk.specs.Disk.{DiskState, Operation}
use Rattle.trace_text.specs.declared.item.TraceItem.{TraceItem}
use Rattle.trace_text.specs.declared.item.TraceItem.TheVariants as trace
use Rattle.logged_scripts.specs.Resting.{ReplayedIsAtRest}
use Rattle.logged_scripts.specs.WholeRunsStarts.{joined}
use Rattle.logged_scripts.proofs.Items.{all_join, of_replays, of_stopped}
use Rattle.logged_scripts.proofs.Quiet.{none_legal}
use Rattle.logged_scripts.proofs.RunFronts.{ended_same, failed_same}
use Rattle.logged_scripts.proofs.Running.{run_begins}
use Rattle.logged_scripts.proofs.Starting.{stopped_by}
use Rattle.lone_runs.specs.Laws.{IsRunOf, NothingIsWritten, RunsAreLegal, WritesNothing}
use Rattle.lone_runs.specs.Runs.{GoesSo, crashed, disk_failed, no_memory, not_fenced, not_joined, ran}
use Rattle.lone_runs.specs.declared.ends.RunEnd.{RunEnd}
use Rattle.lone_runs.proofs.Ran.{is_run, rests}

-- ---- items with a stop

pub no_stop_behind : (xs more : List TraceItem) → NoneStopped (xs ++ trace.Crash 1 ∷ more) → ⊥
no_stop_behind [] more none = none
no_stop_behind (trace.Crash node ∷ xs) more none = none
no_stop_behind (trace.Withdraw node before after ∷ xs) more none = none
no_stop_behind (x ∷ xs) more none = no_stop_behind xs more none

-- ---- a run behind which nothing was done

only_nothing : (a p q : Point) (d : DiskState) (list : Option (List Operation)) (items : List TraceItem) → IsBehind a p q d list items → NoneStopped items → (d ≡ q.disk) × (list ≡ q.list) × (items ≡ q.items)
only_nothing a p q d list items (nothing same listed are) none = (same, listed, are)
only_nothing a p q d list items (crash untold same listed are) none = absurd (no_stop_behind q.items [] (subst NoneStopped are none))
only_nothing a p q d list items (fence untold fenced are) none = absurd (no_stop_behind q.items (trace.Fence 1 ∷ []) (subst NoneStopped are none))
only_nothing a p q d list items (loss untold hf) none = absurd (no_stop_behind q.items (trace.Fence 1 ∷ trace.Lost 1 hf.kept ∷ []) (subst NoneStopped hf.told none))

-- ---- where nothing changes

pub nothing_is_written : NothingIsWritten
nothing_is_written s time frames before view journals plans own plan after items goes none unchanged = by (Ok tt) goes refl
  where
    by : (r : Result (Unit {0}) RunEnd) → GoesSo s time frames before view journals plans own plan after items r → r ≡ Ok tt → WritesNothing time before journals plans after
    by _ (not_joined e same empty may) is = cc
    by _ (no_memory some early) is = cc
    by _ (disk_failed block rise failed early) is = cc
    by _ (crashed stopped told it at hf) is = absurd (no_stop_behind told (trace.Fence 1 ∷ trace.Lost 1 hf.kept ∷ []) (subst NoneStopped hf.told none))
    by _ (not_fenced stopped told e it at ends) is = cc
    by _ (ran replayed begun r have sound run) is =
        let behind = only_nothing _ run.last run.left after.disk after.list items run.behind none in
        let still = run.goes.untouched (subst (AllByRecursion (λ it. is_change it ≡ false)) behind.2 unchanged) in
        let same : after ≡ replayed = (λ i. record { disk = (behind.0 ∙ still.0) i; list = (behind.1 ∙ still.1) i }) in
        record { begun = begun; replays = subst (λ (x : Moment). HaveReplayed 1 time before x journals plans joined begun) (sym same) have }

-- ---- items of replays

-- the history of a start is empty, also where it was cut short
module _ (clients : List Client) (time : ℕ) (before after : Moment) (m : MountedValue) (plans : List Plan) (items : List TraceItem) where
  pub some_silent : HaveReplayedSome 1 time before after m.journals plans joined items → history_of clients items ≡ []
  some_silent some =
      ap (history_of clients) some.replayed.are
      ∙ no_calls clients some.replayed.added (of_replays 1 time before after (take some.count m.journals) (take some.count plans) some.replayed.added some.replayed.replays)

  pub failed_silent : (block : Option ℕ) → HaveFailed 1 time before after m.journals plans joined items block → history_of clients items ≡ []
  failed_silent block f =
      let at = stopped_by (f.count + 1) time f.journal.dinode f.journal.blocks f.between after f.plan block f.failed.added f.failed.stopped in
      ap (history_of clients) (f.failed.are ∙ ap (λ xs. xs ++ f.failed.added) f.replayed.are)
      ∙ no_calls clients (f.replayed.added ++ f.failed.added)
      (all_join f.replayed.added f.failed.added (of_replays 1 time before f.between (take f.count m.journals) (take f.count plans) f.replayed.added f.replayed.replays)
      (of_stopped f.between after f.plan.home.items _ block f.failed.added at.2))

-- ---- what was answered is legal

module _ (resting : ReplayedIsAtRest) (counting : CallsAreCounted) (begin : RunsBeginSo) (as_failed : CrashedAreAsFailed) (s : ScriptValue) (time frames : ℕ) (before : Moment) (m : MountedValue) (plans : List Plan) (start : Tree) (after : Moment)
    (items : List TraceItem) (result : Result (Unit {0}) RunEnd) (is : IsRunOf s time frames before m plans start after items result) (none : NoneStopped items) where
  silent_is_legal : (xs : List TraceItem) → items ≡ xs → history_of s.clients xs ≡ [] → Legal (history_of s.clients items) start
  silent_is_legal xs same silent = subst (λ h. Legal h start) (sym (ap (history_of s.clients) same ∙ silent)) (none_legal start)

  abbrev IsLegal : Type 0
  IsLegal = Legal (history_of s.clients items) start

  unfenced : (stopped : Moment) (told : List TraceItem) → HaveCrashed 1 time before stopped m.journals plans joined told → (e : FenceEnd) → EndsAt stopped.disk stopped.list told after.disk after.list items e → IsLegal
  unfenced stopped told it (fence_end.NotFenced rise) ends = absurd (no_stop_behind told [] (subst NoneStopped ends.are none))
  unfenced stopped told it (fence_end.ReadFailed block rise) ends = absurd (no_stop_behind told (trace.Fence 1 ∷ []) (subst NoneStopped ends.told none))
  unfenced stopped told it fence_end.NoMemory (inl ends) =
      silent_is_legal told ends.are (failed_silent s.clients time before stopped m plans told it.crashed.block (as_failed 1 time before stopped m.journals plans joined told it))
  unfenced stopped told it fence_end.NoMemory (inr ends) = absurd (no_stop_behind told (trace.Fence 1 ∷ []) (subst NoneStopped ends.told none))

  by_stage : (r : Result (Unit {0}) RunEnd) → GoesSo s time frames before (view_of before.disk.size m) m.journals plans is.own is.plan after items r → IsLegal
  by_stage _ (not_joined e same empty may) = silent_is_legal [] empty refl
  by_stage _ (no_memory some early) = silent_is_legal items refl (some_silent s.clients time before after m plans items some)
  by_stage _ (disk_failed block rise failed early) = silent_is_legal items refl (failed_silent s.clients time before after m plans items block failed)
  by_stage _ (crashed stopped told it at hf) = absurd (no_stop_behind told (trace.Fence 1 ∷ trace.Lost 1 hf.kept ∷ []) (subst NoneStopped hf.told none))
  by_stage _ (not_fenced stopped told e it at ends) = unfenced stopped told it e ends
  by_stage _ (ran replayed begun r have sound run) =
      let behind = only_nothing _ run.last run.left after.disk after.list items run.behind none in
      let rest = rests resting s time frames before replayed m plans start is.own is.plan begun is.from is.is_own have sound is.few run.count run.last run.left in
      let its_run = is_run resting s time frames before replayed m plans start is.own is.plan begun is.from is.is_own have sound is.few run.count run.last run.left run.goes s.clients in
      let begins = run_begins begin s.clients before m plans time start rest.owners rest.layout is.own.dinode _ run.last run.left its_run in
      let answered = counting _ _ is.own.dinode s.clients time _ run.last begins run.goes.steps in
      let same : history_of s.clients items ≡ history_of s.clients run.last.items
      = ap (history_of s.clients) behind.2 ∙ elim run.goes.goes [ inl fail ↦ failed_same s.clients time run.last run.left fail | inr end ↦ ended_same s.clients run.last run.left end.1 ] in
      subst (λ h. Legal h start) (sym same) answered.legal

pub runs_are_legal : ReplayedIsAtRest → CallsAreCounted → RunsBeginSo → CrashedAreAsFailed → RunsAreLegal
runs_are_legal resting counting begin as_failed s time frames before m plans start after items result is none =
    by_stage resting counting begin as_failed s time frames before m plans start after items result is none result is.goes
