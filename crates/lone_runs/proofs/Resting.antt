-- Behind a run that came to its end without a stop the disk is at rest.
use Rattle.std.proofs.Common.{◌≡◌, ◌⊎◌, ℕ, ◌+◌, List, [], ◌∷◌, Option, None, Some, refl, ap, subst, ◌∙◌, inl, inr}
use Rattle.std.specs.Prelude.{Result, Ok, Err}
use Rattle.std.proofs.lemmas.Bool.{cases_eq}
use Rattle.disk_turns.specs.Turns.{Moment}
use Rattle.drafts.specs.declared.change.Written.{Written}
use Rattle.image_mount.specs.Mounted.{Journal}
use Rattle.image_recovery.specs.Recoveries.{AreReplays, HaveReplayed}
use Rattle.journal_replays.specs.Replays.{IsReplayWith}
use Rattle.log_layout.specs.declared.log_header.LogHeader.{LogHeader}
use Rattle.logged_scripts.specs.Points.{Point}
use Rattle.logged_scripts.specs.Runs.{HasRun, HasUnmounted, IsThrough, clean_still, crashed, unmounted, with_header}
use Rattle.logged_scripts.specs.declared.ends.RunEnd.{RunEnd as ScriptEnd}
use Rattle.lone_view.specs.Seeing.{Lone}
use Rattle.peer_replay.specs.declared.planned.Plan.{Plan}
use Rattle.run_rules.specs.History.{NoneStopped}
use Rattle.script_lang.specs.Script.{ScriptValue}
use Rattle.shared_disk.specs.Disk.{DiskState, IsIdle}
use Rattle.trace_text.specs.declared.item.TraceItem.{TraceItem}
use Rattle.trace_text.specs.declared.item.TraceItem.TheVariants as trace
use Rattle.logged_scripts.specs.WholeRunsStarts.{joined}
use Rattle.lone_runs.specs.Beginning.{start_point}
use Rattle.lone_runs.specs.Laws.{RunsRest}
use Rattle.lone_runs.specs.Runs as stages
use Rattle.lone_runs.specs.Runs.{GoesSo, IsSameDisk, as_end}
use Rattle.lone_runs.specs.declared.ends.RunEnd.{RunEnd}
use Rattle.lone_runs.specs.declared.ends.RunEnd.TheVariants as end
use Rattle.lone_runs.proofs.Disks.{behind_run_same, replayed_same, same_on}
use Rattle.lone_runs.proofs.Ended.{err_ok, none_flies}
use Rattle.lone_runs.proofs.Silent.{no_stop_behind}

-- ---- replays fence no node

replay_fences : (slot dinode : ℕ) (blocks : List ℕ) (time : ℕ) (before after : Moment) (home : List Written) (header : Option LogHeader) (items : List TraceItem)
    → IsReplayWith 1 slot dinode blocks time before after home header items → after.disk.is_fenced ≡ before.disk.is_fenced
replay_fences slot dinode blocks time before after home None items is = ap (λ (m : Moment). m.disk.is_fenced) is.0
replay_fences slot dinode blocks time before after home (Some header) items is = is.headed.written.fenced ∙ is.homes.written.fenced

replays_fence : (slot time : ℕ) (before after : Moment) (js : List Journal) (ps : List Plan) (items : List TraceItem) → AreReplays 1 slot time before js ps after items → after.disk.is_fenced ≡ before.disk.is_fenced
replays_fence slot time before after [] [] items is = ap (λ (m : Moment). m.disk.is_fenced) is.0
replays_fence slot time before after [] (p ∷ ps) items is = absurd is
replays_fence slot time before after (j ∷ js) [] items is = absurd is
replays_fence slot time before after (j ∷ js) (p ∷ ps) items (next, first, later, are, one, others) =
    replays_fence (slot + 1) time next after js ps later others ∙ replay_fences slot j.dinode j.blocks time before next p.home.items p.clean first one

-- ---- the unmounted node has nothing in flight

own_rests : (p q : Point) → HasUnmounted p q → q.disk.in_flight 1 ≡ []
own_rests p q (clean_still unmounts done clean same) = ap (λ (x : Point). x.disk.in_flight 1) same ∙ none_flies (p.disk.in_flight 1) done.still
own_rests p q (with_header bytes list unmounts flies same) = ap (λ (x : Point). x.disk.in_flight 1) same

-- ---- the run

module _ (s : ScriptValue) (time frames : ℕ) (before : Moment) (view : Lone) (journals : List Journal) (plans : List Plan) (own : Journal) (plan : Plan) (after : Moment) (items : List TraceItem) (idle : IsIdle before.disk) (none : NoneStopped items) where
  module _ (replayed : Moment) (begun : List TraceItem) (have : HaveReplayed 1 time before replayed journals plans joined begun) where
    abbrev a : Point
    a = start_point replayed view own plan time frames begun

    module _ (r : Result (Unit {0}) ScriptEnd) (run : HasRun s time a after.disk after.list items r) where
      same : IsSameDisk before.disk after.disk
      same = same_on before.disk replayed.disk after.disk (replayed_same time before replayed journals plans begun idle.none_in_flight have)
          (behind_run_same time a run.last run.left after.disk after.list items run.goes.steps run.goes.goes run.behind)

      fences : run.left.disk.is_fenced ≡ before.disk.is_fenced
      fences = run.goes.same.fenced ∙ replays_fence 1 time before replayed journals plans have.added have.replays

      rests_with : HasUnmounted run.last run.left → after.disk ≡ run.left.disk → IsIdle after.disk
      rests_with has left_is = record { none_in_flight = λ node. flying node (cases_eq node 1); none_fenced = λ node. ap (λ (d : DiskState). d.is_fenced node) left_is ∙ ap (λ f. f node) fences ∙ idle.none_fenced node }
        where
          flying : (node : ℕ) → (node ≡ 1) ⊎ (node ≡ 1 → ⊥) → after.disk.in_flight node ≡ []
          flying node (inl one) = ap after.disk.in_flight one ∙ ap (λ (d : DiskState). d.in_flight 1) left_is ∙ own_rests run.last run.left has
          flying node (inr other) = same.flying node other ∙ idle.none_in_flight node

      through : IsThrough s a run.count run.last run.left after.disk after.list items → IsIdle after.disk
      through (unmounted whole has left_is listed are) = rests_with has left_is
      through (crashed crashes hf) = absurd (no_stop_behind run.left.items (trace.Fence 1 ∷ trace.Lost 1 hf.kept ∷ []) (subst NoneStopped hf.told none))

    by_result : (r : Result (Unit {0}) ScriptEnd) → HasRun s time a after.disk after.list items r → as_end r ≡ Ok tt → IsIdle after.disk
    by_result (Ok u) run ok = through (Ok u) run run.out
    by_result (Err e) run ok = absurd (err_ok (end.Script e) ok)

  by_stage : (r : Result (Unit {0}) RunEnd) → GoesSo s time frames before view journals plans own plan after items r → r ≡ Ok tt → IsIdle after.disk
  by_stage _ (stages.not_joined e same empty may) ok = absurd (err_ok e ok)
  by_stage _ (stages.no_memory some early) ok = absurd (err_ok _ ok)
  by_stage _ (stages.disk_failed block rise failed early) ok = absurd (err_ok _ ok)
  by_stage _ (stages.crashed stopped told it at hf) ok = absurd (no_stop_behind told (trace.Fence 1 ∷ trace.Lost 1 hf.kept ∷ []) (subst NoneStopped hf.told none))
  by_stage _ (stages.not_fenced stopped told e it at ends) ok = absurd (err_ok _ ok)
  by_stage _ (stages.ran replayed begun r have sound run) ok = by_result replayed begun have r run ok

pub runs_rest : RunsRest
runs_rest s time frames before view journals plans own plan after items idle goes none = by_stage s time frames before view journals plans own plan after items idle none (Ok tt) goes refl
