-- The image that a run leaves which came to its end without a stop is of the profile.
use Rattle.std.proofs.Common.{◌≡◌, ℕ, ◌^◌, ◌<◌, List, [], ◌∷◌, ◌++◌, Option, refl, sym, ap, subst, ◌∙◌}
use Rattle.std.specs.Prelude.{◌↔◌, Result, Ok, Err}
use Rattle.disk_turns.specs.Turns.{Moment}
use Rattle.file_tree.specs.Tree.{Tree}
use Rattle.image_changes.specs.Laws.{OneLayout}
use Rattle.image_machine.specs.Volumes.{Volume, volume_of}
use Rattle.image_model.specs.Image.{Image, image_of}
use Rattle.image_model.specs.Profile.{IsInProfile}
use Rattle.image_model.specs.Replays.{Replayed}
use Rattle.image_model.specs.Stands.{IsJournalAt, IsLaid, Layout}
use Rattle.image_mount.specs.Mounted.{IsOfProfile, MountedValue}
use Rattle.image_recovery.specs.Left.{HaveLowHeads, LeftIsOfProfile, ReplayLeaves}
use Rattle.image_recovery.specs.Recoveries.{HaveReplayed}
use Rattle.log_layout.specs.Transactions.{after}
use Rattle.log_layout.specs.declared.log_header.LogHeader.{LogHeader}
use Rattle.whole_runs.specs.LoggedRunsStarts.{BeginsAt}
use Rattle.whole_runs.specs.Laws.{RunsBeginSo}
use Rattle.logged_steps.specs.Points.{Point}
use Rattle.whole_runs.specs.Resting.{ReplayedIsAtRest, RestsAsMounted}
use Rattle.lone_runs.specs.LoggedScriptsRuns.{GoesTo, HasRun, HasUnmounted, IsThrough, clean_still, crashed, unmounted, with_header}
use Rattle.logged_steps.specs.Ends.{clean_item}
use Rattle.logged_steps.specs.Laws.{HeadsAreTold, StepsKeep}
use Rattle.lone_runs.specs.WholeRunsStarts.{joined}
use Rattle.whole_runs.specs.Wholes.{IsRun}
use Rattle.lone_runs.specs.logged_scripts_ends.RunEnd.{RunEnd as ScriptEnd}
use Rattle.whole_runs.proofs.Running.{run_begins}
use Rattle.logged_steps.specs.NodeEnds.{CleanNodesHaveEnded, ItsEndsLand}
use Rattle.lone_images.specs.Lone.{begun_on}
use Rattle.logged_steps.specs.LoggedLaws.{ItsOutcomesStand}
use Rattle.lone_runs.specs.Beginning.{start_point}
use Rattle.lone_runs.specs.Laws.{IsRunOf}
use Rattle.lone_runs.specs.Runs as stages
use Rattle.lone_runs.specs.Runs.{GoesSo, as_end}
use Rattle.lone_runs.specs.declared.ends.RunEnd.{RunEnd}
use Rattle.lone_runs.specs.declared.ends.RunEnd.TheVariants as end
use Rattle.lone_runs.proofs.Ran.{head_is, is_run, rests}
use Rattle.lone_runs.proofs.Silent.{no_stop_behind}
use Rattle.mounted_views.specs.Views.{view_of}
use Rattle.peer_replay.specs.declared.planned.Plan.{Plan}
use Rattle.run_rules.specs.History.{NoneStopped}
use Rattle.script_lang.specs.Script.{ScriptValue}
use Rattle.shared_disk.specs.Disk.{DiskState, IsSound, Operation}
use Rattle.trace_text.specs.declared.item.TraceItem.{TraceItem}
use Rattle.trace_text.specs.declared.item.TraceItem.TheVariants as trace
use Rattle.kept_profiles.specs.Keeping.{StepsKeepTheSystem}
use Rattle.kept_profiles.specs.Profiles.{HaveLowSequences, IsLeftOfProfile, RunsKeepTheProfile}
use Rattle.kept_profiles.proofs.Ending.{IsOfProfileBy, clean_of_profile, landed_of_profile}

err_ok : (e : RunEnd) → ◌≡◌ {A = Result (Unit {0}) RunEnd} (Err e) (Ok tt) → ⊥
err_ok e same = cc

low_behind : (xs ys : List TraceItem) → HaveLowSequences (xs ++ ys) → HaveLowSequences ys
low_behind [] ys all = all
low_behind (x ∷ xs) ys all = low_behind xs ys all.1

module _ (resting : ReplayedIsAtRest) (begin : RunsBeginSo) (keep : StepsKeep) (told : HeadsAreTold) (system : StepsKeepTheSystem) (remain : ItsOutcomesStand) (lands : ItsEndsLand) (cleans : CleanNodesHaveEnded)
    (leaves : ReplayLeaves) (left_profile : LeftIsOfProfile) (one : OneLayout) (s : ScriptValue) (time frames : ℕ) (before : Moment) (m : MountedValue) (plans : List Plan) (start : Tree) (after_it : Moment) (items : List TraceItem)
    (l : Layout) (full : Image) (is : IsRunOf s time frames before m plans start after_it items (Ok tt)) (none : NoneStopped items) (is_full : Replayed (image_of before.disk) l full) (profile : IsOfProfile full) (heads : HaveLowHeads m)
    (low : HaveLowSequences items) where
  module _ (replayed : Moment) (count : ℕ) (begun : List TraceItem) (have : HaveReplayed 1 time before replayed m.journals plans joined begun) (sound : IsSound replayed.disk) (p q : Point) where
    abbrev a : Point
    a = start_point replayed (view_of before.disk.size m) is.own is.plan time frames begun

    module _ (goes : GoesTo s time a count p q) where
      abbrev rest : RestsAsMounted replayed m is.own plans before.disk.size frames time start is.from.mounted.layout
      rest = rests resting s time frames before replayed m plans start is.own is.plan begun is.from is.is_own have sound is.few count p q

      its_run : IsRun s.clients before m plans time start rest.owners rest.layout is.own.dinode a p q
      its_run = is_run resting s time frames before replayed m plans start is.own is.plan begun is.from is.is_own have sound is.few count p q goes s.clients

      abbrev v : Volume
      v = volume_of (image_of a.disk) rest.layout

      begins : BeginsAt v (begun_on (image_of a.disk) rest.owners rest.layout start) is.own.dinode s.clients a
      begins = run_begins begin s.clients before m plans time start rest.owners rest.layout is.own.dinode a p q its_run

      laid : IsLaid (image_of a.disk) rest.owners rest.layout
      laid = rest.rest.stands.laid

      -- what the replays left is of the profile
      replayed_so : IsOfProfile (image_of a.disk)
      replayed_so = left_profile (image_of before.disk) (image_of a.disk) full m is.from.mounted l start
          (leaves 1 time before replayed m plans joined begun is.from.tells is.from.idle is.from.sized is.from.mounted is.from.planned is.from.can is.from.read have) is.from.stands is_full profile heads

      was : IsInProfile (image_of a.disk) rest.layout
      was = subst (IsInProfile (image_of a.disk)) (one (image_of a.disk) replayed_so.owners rest.owners replayed_so.layout rest.layout replayed_so.laid laid) replayed_so.profile

      of_end : HasUnmounted p q → items ≡ q.items → IsOfProfileBy rest.layout (image_of q.disk)
      of_end (clean_still unmounts done clean left_is) are =
          subst (λ (x : Point). IsOfProfileBy rest.layout (image_of x.disk)) (sym left_is)
          (clean_of_profile keep told system remain lands cleans v (begun_on (image_of a.disk) rest.owners rest.layout start) is.own.dinode s.clients time a p begins goes.steps rest.owners laid was rest.head rest.rest.headed
          (ap (λ (h : LogHeader). h.sequence) (head_is resting s time frames before replayed m plans start is.own is.plan begun is.from is.is_own have sound is.few count p q)) done clean)
      of_end (with_header bytes list unmounts flies left_is) are =
          subst (λ (x : Point). IsOfProfileBy rest.layout (image_of x.disk)) (sym left_is)
          (landed_of_profile keep told system remain lands cleans v (begun_on (image_of a.disk) rest.owners rest.layout start) is.own.dinode s.clients time a p begins goes.steps rest.owners laid was bytes flies number)
        where
          number : after p.log.sequence < 2 ^ 63
          number = (low_behind p.items (clean_item p ∷ trace.Barrier 1 ∷ []) (subst HaveLowSequences (are ∙ ap (λ (x : Point). x.items) left_is) low)).0

      -- with the journals that were found
      with_journals : (im : Image) → IsOfProfileBy rest.layout im → IsLeftOfProfile im is.from.mounted.layout
      with_journals im (of, same) = record { of = of; journals = λ j k. subst (λ z. IsJournalAt z j k ↔ IsJournalAt is.from.mounted.layout j k) (sym same) (rest.journals j k) }

      through : (disk : DiskState) (list : Option (List Operation)) → IsThrough s a count p q disk list items → IsLeftOfProfile (image_of disk) is.from.mounted.layout
      through disk list (unmounted whole has same listed are) = with_journals (image_of disk) (subst (λ (e : DiskState). IsOfProfileBy rest.layout (image_of e)) (sym same) (of_end has are))
      through disk list (crashed crashes hf) = absurd (no_stop_behind q.items (trace.Fence 1 ∷ trace.Lost 1 hf.kept ∷ []) (subst NoneStopped hf.told none))

  by_result : (replayed : Moment) (begun : List TraceItem) (r : Result (Unit {0}) ScriptEnd) → HaveReplayed 1 time before replayed m.journals plans joined begun → IsSound replayed.disk
      → HasRun s time (start_point replayed (view_of before.disk.size m) is.own is.plan time frames begun) after_it.disk after_it.list items r → as_end r ≡ Ok tt → IsLeftOfProfile (image_of after_it.disk) is.from.mounted.layout
  by_result replayed begun (Ok u) have sound run ok = through replayed run.count begun have sound run.last run.left run.goes after_it.disk after_it.list run.out
  by_result replayed begun (Err e) have sound run ok = absurd (err_ok (end.Script e) ok)

  by_stage : (r : Result (Unit {0}) RunEnd) → GoesSo s time frames before (view_of before.disk.size m) m.journals plans is.own is.plan after_it items r → r ≡ Ok tt → IsLeftOfProfile (image_of after_it.disk) is.from.mounted.layout
  by_stage _ (stages.not_joined e same empty may) ok = absurd (err_ok e ok)
  by_stage _ (stages.no_memory some early) ok = absurd (err_ok _ ok)
  by_stage _ (stages.disk_failed block rise failed early) ok = absurd (err_ok _ ok)
  by_stage _ (stages.crashed stopped told' it at hf) ok = absurd (no_stop_behind told' (trace.Fence 1 ∷ trace.Lost 1 hf.kept ∷ []) (subst NoneStopped hf.told none))
  by_stage _ (stages.not_fenced stopped told' e it at ends) ok = absurd (err_ok _ ok)
  by_stage _ (stages.ran replayed begun r have sound run) ok = by_result replayed begun r have sound run ok

pub runs_keep_the_profile : ReplayedIsAtRest → RunsBeginSo → StepsKeep → HeadsAreTold → StepsKeepTheSystem → ItsOutcomesStand → ItsEndsLand → CleanNodesHaveEnded → ReplayLeaves → LeftIsOfProfile → OneLayout → RunsKeepTheProfile
runs_keep_the_profile resting begin keep told system remain lands cleans leaves left_profile one s time frames before m plans start after_it items l full is none is_full profile heads low =
    by_stage resting begin keep told system remain lands cleans leaves left_profile one s time frames before m plans start after_it items l full is none is_full profile heads low (Ok tt) is.goes refl
