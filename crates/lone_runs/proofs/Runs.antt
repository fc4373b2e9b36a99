-- The laws of runs.
use Rattle.std.proofs.Common.{◌≡◌, ℕ, ◌≤◌, zero, suc, List, [], ◌∷◌, ◌++◌, take, None, Some, refl, sym, ap, subst, ◌∙◌, inl, inr, arith}
use Rattle.std.specs.Prelude.{Result}
use Rattle.std.proofs.lemmas.List.{append_assoc}
use Rattle.disk_turns.specs.Turns.{Moment}
use Rattle.disk_turns.proofs.Gaining.{gains_join}
use Rattle.file_tree.specs.Tree.{Tree}
use Rattle.image_machine.specs.Volumes.{Volume}
use Rattle.image_model.specs.Image.{Image, image_of}
use Rattle.image_model.specs.Replays.{StandsReplayed}
use Rattle.image_mount.specs.Mounted.{MountedValue}
use Rattle.image_recovery.specs.Laws.{CrashedAreAsFailed}
use Rattle.image_recovery.specs.Recoveries.{HaveCrashed, HaveFailed}
use Rattle.journal_outcomes.specs.Disks.{flown_by}
use Rattle.journal_outcomes.specs.Images.{NoFalseHeader}
use Rattle.log_layout.specs.Laws.{PlacesSayAll}
use Rattle.lone_fences.specs.Fencing.{EndsAt, HasFenced, IsFenced, with_fence}
use Rattle.lone_fences.specs.declared.ends.FenceEnd.{FenceEnd}
use Rattle.lone_fences.specs.declared.ends.FenceEnd.TheVariants as fence_end
use Rattle.logged_scripts.specs.Disks.{disk_after}
use Rattle.logged_scripts.specs.LoggedRunsLaws.{MayLeave}
use Rattle.logged_scripts.specs.Standing.{StandsAsTold}
use Rattle.mounted_views.specs.Views.{view_of}
use Rattle.peer_replay.specs.declared.planned.Plan.{Plan}
use Rattle.right_losses.specs.Kept.{kept_by}
use Rattle.run_rules.specs.Follows.{history_of}
use Rattle.script_lang.specs.Script.{ScriptValue}
use Rattle.script_lang.specs.declared.script.Client.{Client}
use Rattle.shared_disk.specs.Disk.{DiskState, Fence, Flight, Gains, Operation, after_fence, flight_to}
use Rattle.trace_text.specs.declared.item.TraceItem.{TraceItem}
use Rattle.trace_text.specs.declared.item.TraceItem.TheVariants as trace
use Rattle.logged_scripts.specs.Fronts.{FailedStartsStand, HasStartWhole, RunsStandAtEachFront, SettlesRight, StandsAtEachFront, StartsStand}
use Rattle.logged_scripts.specs.Resting.{ReplayedIsAtRest}
use Rattle.logged_scripts.specs.WholeRunsStarts.{its_volume, joined}
use Rattle.logged_scripts.specs.Wholes.{Course, RunsAreTold as WholeRunsAreTold, WholeRunsStand, disk_behind, heads_of, no_write}
use Rattle.logged_scripts.proofs.Quiet.{none_legal, nothing_stands}
use Rattle.logged_scripts.proofs.Starting.{only_itself}
use Rattle.lone_runs.specs.Laws.{HasStood, HasTrueFence, IsRunOf, RunsStand}
use Rattle.lone_runs.specs.Runs.{GoesSo, crashed, disk_failed, no_memory, not_fenced, not_joined, ran}
use Rattle.lone_runs.specs.declared.ends.RunEnd.{RunEnd}
use Rattle.lone_runs.proofs.Silent.{failed_silent}
use Rattle.lone_runs.proofs.Ran.{gained_of, is_run, rests}
use Rattle.lone_runs.proofs.Standing.{append_nil, cancel, run_has_stood}
use Rattle.lone_runs.proofs.StartStanding.{start_crashed, start_fenced, start_lost, start_quiet}

some_same : {A : Type 0} {x y : A} → Some x ≡ Some y → x ≡ y
some_same e = cc

-- ---- where nothing was done

module _ (clients : List Client) (before : Moment) (start : Tree) (v : Volume) (stands : StandsReplayed (image_of before.disk) start) (idle : (b : ℕ) → flown_by before.disk 1 b ≡ None) where
  abbrev no_course : Course
  no_course = record { items = []; end = []; operations = []; further = []; later = [] }

  nothing_done : (left : Image) → MayLeave v before.disk left → StandsAsTold clients (heads_of v 0 before.disk no_course left) [] start left
  nothing_done left may = nothing_stands clients (heads_of v 0 before.disk no_course left) start left (subst (λ im. StandsReplayed im start) (sym (only_itself (image_of before.disk) left (flown_by before.disk 1) idle may.outcome)) stands)

  none_stand : StandsAtEachFront v 0 clients before.disk start no_course
  none_stand = record {
    legal = none_legal start;
    synced = λ p q node client number kept low sync lost. cc;
    right = λ p node kept at. cc;
    fronts = λ count left low may. by count left low may;
    whole = nothing_done;
    settled = λ ends. absurd (no_end ends.before ends.kept ends.are);
  }
    where
      no_end : (xs : List TraceItem) (kept : ℕ) → [] ≡ xs ++ trace.Lost 1 kept ∷ [] → ⊥
      no_end [] kept e = cc
      no_end (x ∷ xs) kept e = cc

      by : (count : ℕ) (left : Image) → count ≤ 0 → MayLeave v (disk_behind before.disk no_course count) left → StandsAsTold clients (heads_of v 0 before.disk no_course left) (take count []) start left
      by zero left low may = nothing_done left may
      by (suc n) left low may = absurd (omega (arith, low))

  pub none_has_stood : (operations : List Operation) → operations ≡ [] → (items : List TraceItem) → items ≡ [] → (disk : DiskState) → disk ≡ before.disk → HasStood clients before start items operations disk
  none_has_stood operations no_ops items no_items disk same = record {
    volume = v;
    journal = 0;
    course = no_course;
    is = record { items = sym no_items; operations = sym no_ops; told = refl; behind = refl; one = no_write; disk = same ∙ ap (disk_after before.disk) (sym no_ops) };
    stands = none_stand;
  }

-- ---- all of them

module _ (resting : ReplayedIsAtRest) (whole_stand : WholeRunsStand) (are_told : WholeRunsAreTold) (each_front : RunsStandAtEachFront) (some_stand : StartsStand) (failed_stand : FailedStartsStand) (as_failed : CrashedAreAsFailed) (places_say : PlacesSayAll)
    (s : ScriptValue) (time frames : ℕ) (before : Moment) (m : MountedValue) (plans : List Plan) (start : Tree) (after : Moment) (items : List TraceItem) (result : Result (Unit {0}) RunEnd) (was operations : List Operation)
    (is : IsRunOf s time frames before m plans start after items result) (first : before.list ≡ Some was) (last : after.list ≡ Some (was ++ operations)) (true_fence : HasTrueFence before.disk is.from.mounted.layout operations) where
  abbrev clients : List Client
  clients = s.clients

  abbrev v : Volume
  v = its_volume before.disk m plans time start is.from

  -- ---- it crashed in its replays

  module _ (stopped : Moment) (told : List TraceItem) (crash : HaveCrashed 1 time before stopped m.journals plans joined told) where
    failed : HaveFailed 1 time before stopped m.journals plans joined told crash.crashed.block
    failed = as_failed 1 time before stopped m.journals plans joined told crash

    whole_of : (ops : List Operation) → stopped.list ≡ Some (was ++ ops) → HasStartWhole before v clients start told stopped.disk ops
    whole_of ops listed = failed_stand clients before stopped m plans time start told crash.crashed.block was ops is.from failed first listed

    -- its list until then
    gained_until : (all : List Operation) → stopped.list ≡ Some all → (ops : List Operation) × (all ≡ was ++ ops)
    gained_until all listed = (
      crash.replayed.told.0 ++ crash.crashed.told.0,
      subst (λ x. Gains (Some was) x (crash.replayed.told.0 ++ crash.crashed.told.0)) listed
          (subst (λ x. Gains x stopped.list (crash.replayed.told.0 ++ crash.crashed.told.0)) first (gains_join before.list crash.between.list stopped.list crash.replayed.told.0 crash.crashed.told.0 crash.replayed.told.2 crash.crashed.told.2)),
    )

    untouched : stopped.list ≡ after.list → stopped.list ≡ Some (was ++ operations)
    untouched same = same ∙ last

    module _ (fenced : IsFenced stopped.disk stopped.list after.disk after.list) where
      abbrev became : List Flight
      became = fenced.became

      parts : (w : List Operation) × (stopped.list ≡ Some w) × (was ++ operations ≡ w ++ Fence 1 became ∷ [])
      parts = gained_of stopped.list (was ++ operations) (Fence 1 became ∷ []) (subst (λ x. Gains stopped.list x (Fence 1 became ∷ [])) last fenced.gains)

      front : (ops : List Operation) × (parts.0 ≡ was ++ ops)
      front = gained_until parts.0 parts.1

      operations_are : operations ≡ front.0 ++ Fence 1 became ∷ []
      operations_are = cancel was operations (front.0 ++ Fence 1 became ∷ []) (parts.2 ∙ ap (λ x. x ++ Fence 1 became ∷ []) front.1 ∙ append_assoc was front.0 (Fence 1 became ∷ []))

      whole : HasStartWhole before v clients start told stopped.disk front.0
      whole = whole_of front.0 (parts.1 ∙ ap Some front.1)

      settles : SettlesRight v stopped.disk became
      settles = record {
        outcome = fenced.outcome;
        no_false = subst (λ y. NoFalseHeader (image_of y) is.from.mounted.layout (flown_by y 1) (image_of (after_fence y 1 became))) (sym whole.has.disk) (true_fence front.0 became operations_are);
      }

      fenced_last : items ≡ with_fence told → HasStood clients before start items operations after.disk
      fenced_last are = start_fenced v clients before start told stopped.disk front.0 whole became operations operations_are after.disk fenced.disk settles items are

      lost_none : items ≡ told ++ trace.Crash 1 ∷ trace.Fence 1 ∷ trace.Lost 1 0 ∷ [] → HasStood clients before start items operations after.disk
      lost_none are = start_lost v clients before start told stopped.disk front.0 whole became operations operations_are after.disk fenced.disk settles items are

    no_history : history_of clients told ≡ []
    no_history = failed_silent clients time before stopped m plans told crash.crashed.block failed

    with_its_loss : HasFenced stopped.disk stopped.list told is.own.blocks is.own.head.sequence after.disk after.list items → HasStood clients before start items operations after.disk
    with_its_loss hf = lost_none hf.fenced (hf.told ∙ ap (λ k. told ++ trace.Crash 1 ∷ trace.Fence 1 ∷ trace.Lost 1 k ∷ []) (hf.keeps clients ∙ ap (kept_by 1 hf.upto) no_history))

    without_fence : (e : FenceEnd) → EndsAt stopped.disk stopped.list told after.disk after.list items e → HasStood clients before start items operations after.disk
    without_fence (fence_end.NotFenced rise) ends =
        start_crashed v clients before start told stopped.disk operations (whole_of operations (untouched (sym ends.operations))) operations refl after.disk ends.disk items ends.are
    without_fence (fence_end.ReadFailed block rise) ends = fenced_last ends.fenced ends.told
    without_fence fence_end.NoMemory (inl ends) =
        start_quiet v clients before start told stopped.disk operations (whole_of operations (untouched (sym ends.operations))) operations refl after.disk ends.disk items ends.are
    without_fence fence_end.NoMemory (inr ends) = fenced_last ends.fenced ends.told

  -- ---- however far it came

  by_stage : (r : Result (Unit {0}) RunEnd) → GoesSo s time frames before (view_of before.disk.size m) m.journals plans is.own is.plan after items r → HasStood clients before start items operations after.disk
  by_stage _ (not_joined e same none may) =
      let no_ops = cancel was operations [] (some_same (sym last ∙ ap (λ (x : Moment). x.list) same ∙ first) ∙ sym (append_nil was)) in
      none_has_stood clients before start v is.from.stands (λ b. ap (λ (fs : List Flight). flight_to fs b) (is.from.idle.none_in_flight 1)) operations no_ops items none after.disk (ap (λ (x : Moment). x.disk) same)
  by_stage _ (no_memory some early) = start_quiet v clients before start items after.disk operations (some_stand clients before after m plans time start items was operations is.from some first last) operations refl after.disk refl items refl
  by_stage _ (disk_failed block rise failed early) =
      start_quiet v clients before start items after.disk operations (failed_stand clients before after m plans time start items block was operations is.from failed first last) operations refl after.disk refl items refl
  by_stage _ (crashed stopped told crash at hf) = with_its_loss stopped told crash hf
  by_stage _ (not_fenced stopped told e crash at ends) = without_fence stopped told crash e ends
  by_stage _ (ran replayed begun r have sound run) =
      let rest = rests resting s time frames before replayed m plans start is.own is.plan begun is.from is.is_own have sound is.few run.count run.last run.left in
      run_has_stood whole_stand are_told each_front places_say clients before m plans time start rest.owners rest.layout is.own.dinode _ run.last run.left
      (is_run resting s time frames before replayed m plans start is.own is.plan begun is.from is.is_own have sound is.few run.count run.last run.left run.goes clients) (λ j k. (rest.journals j k).0) was operations first after.disk after.list items last true_fence
      (rest.idle.none_in_flight 0) run.behind

  pub runs_stand_so : HasStood clients before start items operations after.disk
  runs_stand_so = by_stage result is.goes

pub runs_stand : ReplayedIsAtRest → WholeRunsStand → WholeRunsAreTold → RunsStandAtEachFront → StartsStand → FailedStartsStand → CrashedAreAsFailed → PlacesSayAll → RunsStand
runs_stand resting whole_stand are_told each_front some_stand failed_stand as_failed places_say s time frames before m plans start after items result was operations is first last true_fence =
    runs_stand_so resting whole_stand are_told each_front some_stand failed_stand as_failed places_say s time frames before m plans start after items result was operations is first last true_fence
