-- A run that came to its end without a stop.
use Rattle.std.proofs.Common.{◌≡◌, ◌⊎◌, ◌==◌, ℕ, List, [], ◌∷◌, ◌++◌, false, None, Some, refl, sym, ap, subst, ◌∙◌, inl, inr}
use Rattle.std.specs.Prelude.{Result, Ok, Err, ◌↔◌}
use Rattle.std.proofs.lemmas.Bool.{cases_eq, cond-false, cond-true, eq-eqb, ne_eqb}
use Rattle.disk_turns.specs.Turns.{Moment}
use Rattle.file_tree.specs.Tree.{Tree}
use Rattle.image_machine.specs.Volumes.{Volume, volume_of}
use Rattle.image_model.specs.Image.{image_of}
use Rattle.image_model.specs.Stands.{IsJournalAt, Layout}
use Rattle.image_mount.specs.Mounted.{MountedValue}
use Rattle.image_recovery.specs.Recoveries.{HaveReplayed}
use Rattle.journal_outcomes.specs.Disks.{flown_by}
use Rattle.logged_scripts.specs.LoggedRunsEnds.{HasEndedAs}
use Rattle.logged_scripts.specs.LoggedRunsLaws.{CleanRunsEnd, RunsBeginSo, RunsEnd as LoggedRunsEnd}
use Rattle.logged_scripts.specs.Points.{Point}
use Rattle.logged_scripts.specs.StepEnds.{clean_item, with_clean}
use Rattle.logged_scripts.specs.Starts.{BeginsAt}
use Rattle.logged_scripts.specs.StepLaws.{IsLoggedAt, OthersRest, StepsKeep}
use Rattle.logged_scripts.specs.Runs.{GoesTo, HasRun, HasUnmounted, IsThrough, clean_still, crashed, unmounted, with_header}
use Rattle.logged_scripts.specs.declared.ends.RunEnd.{RunEnd as ScriptEnd}
use Rattle.lone_images.specs.Lone.{begun_on}
use Rattle.mounted_views.specs.Views.{view_of}
use Rattle.peer_replay.specs.declared.planned.Plan.{Plan}
use Rattle.run_rules.specs.History.{NoneStopped}
use Rattle.script_lang.specs.Script.{ScriptValue}
use Rattle.shared_disk.specs.Disk.{DiskState, Flight, IsSound, after_barrier, flight_to}
use Rattle.trace_text.specs.declared.item.TraceItem.{TraceItem}
use Rattle.trace_text.specs.declared.item.TraceItem.TheVariants as trace
use Rattle.logged_scripts.specs.Resting.{ReplayedIsAtRest, RestsAsMounted}
use Rattle.logged_scripts.specs.WholeRunsStarts.{joined}
use Rattle.logged_scripts.specs.Wholes.{IsRun}
use Rattle.logged_scripts.proofs.Running.{run_begins}
use Rattle.lone_runs.specs.Beginning.{start_point}
use Rattle.lone_runs.specs.Laws.{HasEnded, IsRunOf, RunsEnd}
use Rattle.lone_runs.specs.Runs as stages
use Rattle.lone_runs.specs.Runs.{GoesSo, as_end}
use Rattle.lone_runs.specs.declared.ends.RunEnd.{RunEnd}
use Rattle.lone_runs.specs.declared.ends.RunEnd.TheVariants as end
use Rattle.lone_runs.proofs.Ran.{is_run, rests}
use Rattle.lone_runs.proofs.Silent.{no_stop_behind}

some_none : {A : Type 0} {x : A} → Some x ≡ None → ⊥
some_none e = cc

-- an end is no success
pub err_ok : (e : RunEnd) → ◌≡◌ {A = Result (Unit {0}) RunEnd} (Err e) (Ok tt) → ⊥
err_ok e same = cc

-- nothing flies where nothing flies to any block
pub none_flies : (fs : List Flight) → ((b : ℕ) → flight_to fs b ≡ None) → fs ≡ []
none_flies [] none = refl
none_flies (f ∷ fs) none = absurd (there (none f.block))
  where
    there : flight_to (f ∷ fs) f.block ≡ None → ⊥
    there e = some_none (sym (cond-true (f.block == f.block) (Some f.bytes) (flight_to fs f.block) (eq-eqb f.block f.block refl)) ∙ e)

-- the disk with the clean header in its place is at rest where it was but for node 1
landed_rests : (p : Point) (bytes : List ℕ) → OthersRest p.disk → (node : ℕ) → (after_barrier (with_clean p bytes) 1).in_flight node ≡ []
landed_rests p bytes others node = by (cases_eq node 1)
  where
    by : (node ≡ 1) ⊎ (node ≡ 1 → ⊥) → (after_barrier (with_clean p bytes) 1).in_flight node ≡ []
    by (inl same) = subst (λ n. (after_barrier (with_clean p bytes) 1).in_flight n ≡ []) (sym same) refl
    by (inr other) = cond-false (node == 1) _ _ (ne_eqb node 1 other) ∙ cond-false (node == 1) _ _ (ne_eqb node 1 other) ∙ others node other

done_rests : (p : Point) → ((b : ℕ) → flown_by p.disk 1 b ≡ None) → OthersRest p.disk → (node : ℕ) → p.disk.in_flight node ≡ []
done_rests p still others node = by (cases_eq node 1)
  where
    by : (node ≡ 1) ⊎ (node ≡ 1 → ⊥) → p.disk.in_flight node ≡ []
    by (inl same) = ap p.disk.in_flight same ∙ none_flies (p.disk.in_flight 1) still
    by (inr other) = others node other

module _ (resting : ReplayedIsAtRest) (begin : RunsBeginSo) (keep : StepsKeep) (lands : LoggedRunsEnd) (cleans : CleanRunsEnd) (s : ScriptValue) (time frames : ℕ) (before : Moment) (m : MountedValue) (plans : List Plan) (start : Tree) (after : Moment)
    (items : List TraceItem) (is : IsRunOf s time frames before m plans start after items (Ok tt)) (none : NoneStopped items) where
  abbrev Ended : Type 0
  Ended = HasEnded s before m start after items is.from.mounted.layout

  -- what the run's end says, of the disk and the items that there are
  module _ (l : Layout) (journals : (j k : ℕ) → IsJournalAt l j k ↔ IsJournalAt is.from.mounted.layout j k) (v : Volume) (of : v.layout ≡ l) (its : List TraceItem) (disk : DiskState) (ended : HasEndedAs v s.clients its start (image_of disk))
      (same : after.disk ≡ disk) (are : items ≡ its) (rests_so : (node : ℕ) → disk.in_flight node ≡ []) (unfenced : (node : ℕ) → after.disk.is_fenced node ≡ false) where
    there : HasEndedAs v s.clients items start (image_of after.disk)
    there = subst (λ (d : DiskState). HasEndedAs v s.clients items start (image_of d)) (sym same) (subst (λ xs. HasEndedAs v s.clients xs start (image_of disk)) (sym are) ended)

    ended_so : Ended
    ended_so = record {
      stands = record { owners = there.owners; layout = v.layout; laid = there.stands.laid; reads = there.stands.reads };
      replayed = there.replayed;
      clean = λ j k at. there.clean j k (subst (λ x. IsJournalAt x j k) (sym of) ((journals j k).1 at));
      idle = record { none_in_flight = λ node. ap (λ (d : DiskState). d.in_flight node) same ∙ rests_so node; none_fenced = unfenced };
    }

  module _ (replayed : Moment) (count : ℕ) (a p q : Point) (rest : RestsAsMounted replayed m is.own plans before.disk.size frames time start is.from.mounted.layout)
      (run : IsRun s.clients before m plans time start rest.owners rest.layout is.own.dinode a p q) (goes : GoesTo s time a count p q) (at_replayed : a.disk ≡ replayed.disk) where
    abbrev v : Volume
    v = volume_of (image_of a.disk) rest.layout

    begins : BeginsAt v (begun_on (image_of a.disk) rest.owners rest.layout start) is.own.dinode s.clients a
    begins = run_begins begin s.clients before m plans time start rest.owners rest.layout is.own.dinode a p q run

    logged : IsLoggedAt v (begun_on (image_of a.disk) rest.owners rest.layout start) is.own.dinode s.clients p
    logged = keep v (begun_on (image_of a.disk) rest.owners rest.layout start) is.own.dinode s.clients time a p begins.at goes.steps

    unfenced : after.disk ≡ q.disk → (node : ℕ) → after.disk.is_fenced node ≡ false
    unfenced same node = ap (λ (d : DiskState). d.is_fenced node) same ∙ ap (λ f. f node) goes.same.fenced ∙ ap (λ (d : DiskState). d.is_fenced node) at_replayed ∙ rest.idle.none_fenced node

    by_end : HasUnmounted p q → after.disk ≡ q.disk → items ≡ q.items → Ended
    by_end (clean_still unmounts done clean left_is) same are =
        ended_so rest.layout rest.journals v refl p.items p.disk (cleans v (begun_on (image_of a.disk) rest.owners rest.layout start) is.own.dinode s.clients time a p begins goes.steps done clean)
        (same ∙ ap (λ (x : Point). x.disk) left_is) (are ∙ ap (λ (x : Point). x.items) left_is) (done_rests p done.still logged.others) (unfenced same)
    by_end (with_header bytes list unmounts flies left_is) same are =
        ended_so rest.layout rest.journals v refl (p.items ++ clean_item p ∷ trace.Barrier 1 ∷ []) (after_barrier (with_clean p bytes) 1)
        (lands v (begun_on (image_of a.disk) rest.owners rest.layout start) is.own.dinode s.clients time a p bytes begins goes.steps flies)
        (same ∙ ap (λ (x : Point). x.disk) left_is) (are ∙ ap (λ (x : Point). x.items) left_is) (landed_rests p bytes logged.others) (unfenced same)

    through : IsThrough s a count p q after.disk after.list items → Ended
    through (unmounted whole has same listed are) = by_end has same are
    through (crashed crashes hf) = absurd (no_stop_behind q.items (trace.Fence 1 ∷ trace.Lost 1 hf.kept ∷ []) (subst NoneStopped hf.told none))

  by_result : (replayed : Moment) (begun : List TraceItem) (r : Result (Unit {0}) ScriptEnd) → HaveReplayed 1 time before replayed m.journals plans joined begun → IsSound replayed.disk
      → HasRun s time (start_point replayed (view_of before.disk.size m) is.own is.plan time frames begun) after.disk after.list items r → as_end r ≡ Ok tt → Ended
  by_result replayed begun (Ok u) have sound run ok =
      through replayed run.count _ run.last run.left (rests resting s time frames before replayed m plans start is.own is.plan begun is.from is.is_own have sound is.few run.count run.last run.left)
      (is_run resting s time frames before replayed m plans start is.own is.plan begun is.from is.is_own have sound is.few run.count run.last run.left run.goes s.clients) run.goes refl run.out
  by_result replayed begun (Err e) have sound run ok = absurd (err_ok (end.Script e) ok)

  by_stage : (r : Result (Unit {0}) RunEnd) → GoesSo s time frames before (view_of before.disk.size m) m.journals plans is.own is.plan after items r → r ≡ Ok tt → Ended
  by_stage _ (stages.not_joined e same empty may) ok = absurd (err_ok e ok)
  by_stage _ (stages.no_memory some early) ok = absurd (err_ok _ ok)
  by_stage _ (stages.disk_failed block rise failed early) ok = absurd (err_ok _ ok)
  by_stage _ (stages.crashed stopped told it at hf) ok = absurd (no_stop_behind told (trace.Fence 1 ∷ trace.Lost 1 hf.kept ∷ []) (subst NoneStopped hf.told none))
  by_stage _ (stages.not_fenced stopped told e it at ends) ok = absurd (err_ok _ ok)
  by_stage _ (stages.ran replayed begun r have sound run) ok = by_result replayed begun r have sound run ok

pub runs_end : ReplayedIsAtRest → RunsBeginSo → StepsKeep → LoggedRunsEnd → CleanRunsEnd → RunsEnd
runs_end resting begin keep lands cleans s time frames before m plans start after items is none = by_stage resting begin keep lands cleans s time frames before m plans start after items is none (Ok tt) is.goes refl
