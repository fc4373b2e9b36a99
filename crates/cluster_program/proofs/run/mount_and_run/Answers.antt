use Rattle.std.proofs.Common.{◌≡◌, ◌≤◌, ◌<◌, ◌+◌, ◌^◌, ℕ, List, length, Option, None, Some, sym, ap, ◌∙◌, subst, arith, refl, inl, inr}
use Rattle.std.specs.Prelude.{IfOk, Result, Ok, Err, MatchResult, IsTrue}
use Rattle.run_rules.specs.History.{NoneStopped}
use Rattle.cluster_program.specs.Beginning.{IsPrepared}
use Rattle.cluster_program.specs.Dirty.{IsDirtyCount, IsUnreadHead, dirty_on}
use Rattle.cluster_program.specs.Runs.{Runs, first_line, own_of}
use Rattle.cluster_program.specs.EndStatuses.{IfOfScript, IsPlacedEnd, status_of_run}
use Rattle.cluster_program.specs.World.{Inputs, inputs}
use Rattle.cluster_program.proofs.Alone.{armed_so, for_one}
use Rattle.cluster_program.proofs.Gone.{HasRunAlone, RunLaws, at_start, clean_so, done_so, early_never_done, early_so, found_so, not_prepared, placed_line, placed_so, uncounted_so}
use Rattle.cluster_program.proofs.Counts.{counted_none, counted_stopped, early_count, none_early, of_none, of_stopped, stopped_or_not, unread_early, unread_since}
use Rattle.cluster_program.proofs.Mounts.{begin_never_done}
use Rattle.run_reports.specs.declared.status.Status.{Status}
use Rattle.run_reports.specs.declared.status.Status.TheVariants as status
use Rattle.shared_disk.specs.Disk.{DiskState}
use Rattle.cluster_program.proofs.run.mount_and_run.Given.{Over}
use Rattle.cluster_program.proofs.run.mount_and_run.Goals as goal

-- ---- the run didn't begin

pub returns-in-Err-clause-runs : goal.returns-in-Err-clause-runs
returns-in-Err-clause-runs g c left left_now failed failed_now =
    not_prepared c.runs_of_one_node_follow.ensures.follows c.runs_of_one_node_follow.ensures.numbered (inputs _ _ _ left failed) (inputs _ _ _ left_now failed_now) c.args.script.now c.args.time (for_one c.args.script.now c.requires.form) _ c.in-Err.own
    c.requires.none (record { state_is = c.in-Err.ensures.reads.same; list_is = c.in-Err.ensures.reads.list }) c.in-Err.ensures.ends

pub returns-in-Err-clause-early : goal.returns-in-Err-clause-early
returns-in-Err-clause-early g c = begin_never_done (g.D.SharedDisk.state c.args.disk.now) (g.D.SharedDisk.faults c.args.disk.now) (g.D.SharedDisk.faults c.prepare.new.disk) c.in-Err.own c.in-Err.ensures.ends

pub run_alone-requires-clause-form : goal.run_alone-requires-clause-form
run_alone-requires-clause-form g c = for_one c.args.script.now c.requires.form

pub run_alone-requires-clause-armed : goal.run_alone-requires-clause-armed
run_alone-requires-clause-armed g c = armed_so c.args.script.now c.args.script.now.armed c.requires.well.armed

-- ---- it came to its end

module _ (g : Over) (c : goal.After-drop-journals g) where
  abbrev laws : RunLaws
  laws = record {
    stand = c.runs_stand.ensures;
    told = c.runs_are_told.ensures;
    legal = c.runs_are_legal.ensures;
    end = c.runs_end.ensures;
    profile = c.runs_keep_the_profile.ensures;
    rest = c.runs_rest.ensures;
    damage = c.runs_meet_no_damage.ensures;
    written = c.nothing_is_written.ensures;
    replays = c.runs_tell_their_replays.ensures;
    seen = c.runs_see_their_damage.ensures;
    serve = c.mounted_journals_serve.ensures;
    follow = c.runs_of_one_node_follow.ensures.follows;
    numbered = c.runs_of_one_node_follow.ensures.numbered;
    answer = c.whole_runs_answer_all.ensures;
    leaves = c.a_replay_leaves_its_image.ensures;
    left_by = c.what_a_replay_leaves_stands.ensures.by;
    clean_stand = c.clean_images_stay.ensures.stand;
    left_mounts = c.what_a_replay_leaves_mounts.ensures;
    left_profile = c.what_a_replay_leaves_is_of_the_profile.ensures;
    calls = c.calls_tell_broken_blocks.ensures.exact;
    needs = c.needs_out_of_the_device_tell_broken_blocks.ensures;
    read = c.views_may_be_read_from_mounted_images.ensures;
  }

  module _ (left left_now : Option (List ℕ)) (failed failed_now : ℕ) where
    abbrev given : Inputs
    given = inputs (g.D.SharedDisk.state c.args.disk.now) (g.D.SharedDisk.list c.args.disk.now) (g.D.SharedDisk.faults c.args.disk.now) left failed

    abbrev now : Inputs
    now = inputs (g.D.SharedDisk.state c.left_dirty.new.disk) (g.D.SharedDisk.list c.left_dirty.new.disk) (g.D.SharedDisk.faults c.left_dirty.new.disk) left_now failed_now

    ran : HasRunAlone given now (g.D.SharedDisk.faults c.prepare.new.disk) c.in-Ok.prepared.view c.in-Ok.prepared.journals.items c.in-Ok.prepared.plans.items c.args.script.now c.args.time c.run_alone.new.items.items (Ok tt)
    ran = at_start (λ d l js ps. HasRunAlone (inputs d l (g.D.SharedDisk.faults c.args.disk.now) left failed) now (g.D.SharedDisk.faults c.prepare.new.disk) c.in-Ok.prepared.view js ps c.args.script.now c.args.time c.run_alone.new.items.items (Ok tt))
        c.in-Ok.ensures.reads.same c.in-Ok.ensures.reads.list c.deref.ensures.value c.deref-2.ensures.value
        (at_start (λ d l js ps. HasRunAlone (inputs (g.D.SharedDisk.state c.prepare.new.disk) (g.D.SharedDisk.list c.prepare.new.disk) (g.D.SharedDisk.faults c.args.disk.now) left failed)
        (inputs d l (g.D.SharedDisk.faults c.left_dirty.new.disk) left_now failed_now) (g.D.SharedDisk.faults c.prepare.new.disk) c.in-Ok.prepared.view js ps c.args.script.now c.args.time c.run_alone.new.items.items (Ok tt))
        (sym c.left_dirty.ensures.reads.same) (sym c.left_dirty.ensures.reads.list) refl refl
        (record {
          goes = c.in-Ok-run_alone.ensures.goes;
          headers = c.in-Ok-run_alone.ensures.headers;
          disk = c.in-Ok-run_alone.ensures.disk;
          lone = c.in-Ok-run_alone.ensures.lone;
          whole = c.in-Ok-run_alone.ensures.whole;
          cause = λ own plan is. tt;
        }))

    -- its items and its journals as the count has them
    same_items : c.deref-in-Ok-run_alone-2.result.now ≡ c.run_alone.new.items.items
    same_items = c.deref-in-Ok-run_alone-2.ensures.value

    same_journals : c.deref-in-Ok-run_alone.result.now ≡ c.in-Ok.prepared.journals.items
    same_journals = c.deref-in-Ok-run_alone.ensures.value

    none_so : NoneStopped c.run_alone.new.items.items → MatchResult c.left_dirty.result (λ dirty. dirty ≡ 0) (λ own. ⊥)
    none_so none = c.left_dirty.ensures.none (subst NoneStopped (sym same_items) none)

    stopped_so : (NoneStopped c.run_alone.new.items.items → ⊥) → MatchResult c.left_dirty.result
        (λ dirty. IsTrue (g.D.SharedDisk.state c.run_alone.new.disk).tells → dirty ≡ dirty_on (g.D.SharedDisk.state c.run_alone.new.disk) c.deref-in-Ok-run_alone.result.now)
        (IsUnreadHead c.deref-in-Ok-run_alone.result.now (g.D.SharedDisk.faults c.run_alone.new.disk 0) (g.D.SharedDisk.faults c.left_dirty.new.disk 0))
    stopped_so stopped = c.left_dirty.ensures.stopped (λ none. stopped (subst NoneStopped same_items none))

    runs_done : Runs given now c.args.script.now c.args.time c.run_alone.new.items.items status.Done
    runs_done = done_so laws given now (g.D.SharedDisk.faults c.prepare.new.disk) c.args.script.now c.args.time c.run_alone.new.items.items (for_one c.args.script.now c.requires.form) c.requires.small c.requires.idle c.requires.size
        c.in-Ok.prepared.view c.in-Ok.prepared.journals.items c.in-Ok.prepared.plans.items c.in-Ok.ensures.prepared ran

    runs_uncounted : (own : Status) → (NoneStopped c.run_alone.new.items.items → ⊥) → IsUnreadHead c.deref-in-Ok-run_alone.result.now (g.D.SharedDisk.faults c.run_alone.new.disk 0) (g.D.SharedDisk.faults c.left_dirty.new.disk 0) own
        → Runs given now c.args.script.now c.args.time c.run_alone.new.items.items own
    runs_uncounted own stopped unread =
        uncounted_so laws given now (g.D.SharedDisk.faults c.prepare.new.disk) c.args.script.now c.args.time c.run_alone.new.items.items (for_one c.args.script.now c.requires.form) c.requires.small c.requires.idle c.requires.size
        c.in-Ok.prepared.view c.in-Ok.prepared.journals.items c.in-Ok.prepared.plans.items c.in-Ok.ensures.prepared ran own stopped
        (subst (λ js. IsUnreadHead js (g.D.SharedDisk.faults c.args.disk.now 0) (g.D.SharedDisk.faults c.left_dirty.new.disk 0) own) same_journals
        (unread_since c.deref-in-Ok-run_alone.result.now (g.D.SharedDisk.faults c.args.disk.now 0) (g.D.SharedDisk.faults c.run_alone.new.disk 0) (g.D.SharedDisk.faults c.left_dirty.new.disk 0)
        (let one = c.in-Ok.ensures.reads.later 0 in let two = c.run_alone.ensures.later 0 in omega (arith, one, two)) own unread))

    runs_so : Runs given now c.args.script.now c.args.time c.run_alone.new.items.items (own_of c.left_dirty.result)
    runs_so = elim (stopped_or_not c.run_alone.new.items.items) [
      | inl none ↦ of_none c.left_dirty.result (Runs given now c.args.script.now c.args.time c.run_alone.new.items.items) (none_so none) runs_done
      | inr stopped ↦ of_stopped c.left_dirty.result (Runs given now c.args.script.now c.args.time c.run_alone.new.items.items) (stopped_so stopped) (λ dirty is. runs_done) (λ own unread. runs_uncounted own stopped unread)
    ]

    same_left : g.D.SharedDisk.state c.left_dirty.new.disk ≡ g.D.SharedDisk.state c.run_alone.new.disk
    same_left = c.left_dirty.ensures.reads.same

    found : (NoneStopped c.run_alone.new.items.items → ⊥) → (dirty : ℕ)
        → (IsTrue (g.D.SharedDisk.state c.run_alone.new.disk).tells → dirty ≡ dirty_on (g.D.SharedDisk.state c.run_alone.new.disk) c.deref-in-Ok-run_alone.result.now)
        → IsDirtyCount given.disk now.disk c.args.script.now c.run_alone.new.items.items dirty
    found stopped dirty counted =
        found_so laws given now (g.D.SharedDisk.faults c.prepare.new.disk) c.args.script.now c.args.time c.run_alone.new.items.items (for_one c.args.script.now c.requires.form) c.requires.small c.requires.idle c.requires.size
        c.in-Ok.prepared.view c.in-Ok.prepared.journals.items c.in-Ok.prepared.plans.items c.in-Ok.ensures.prepared stopped dirty
        (λ tells. counted (subst IsTrue (sym ran.disk.tells ∙ ap (λ (d : DiskState). d.tells) same_left) tells)
        ∙ (λ i. dirty_on (sym same_left i) (same_journals i)))

    count_so : IfOk c.left_dirty.result (λ dirty. IsDirtyCount given.disk now.disk c.args.script.now c.run_alone.new.items.items dirty)
    count_so = elim (stopped_or_not c.run_alone.new.items.items) [
      | inl none ↦ counted_none c.left_dirty.result (IsDirtyCount given.disk now.disk c.args.script.now c.run_alone.new.items.items) (none_so none)
          (clean_so laws given now (g.D.SharedDisk.faults c.prepare.new.disk) c.args.script.now c.args.time c.run_alone.new.items.items (for_one c.args.script.now c.requires.form) c.requires.small c.requires.idle c.requires.size
          c.in-Ok.prepared.view c.in-Ok.prepared.journals.items c.in-Ok.prepared.plans.items c.in-Ok.ensures.prepared ran none)
      | inr stopped ↦ counted_stopped _ c.left_dirty.result (IsDirtyCount given.disk now.disk c.args.script.now c.run_alone.new.items.items) (stopped_so stopped) (found stopped)
    ]

pub returns-in-Ok-run_alone-clause-runs : goal.returns-in-Ok-run_alone-clause-runs
returns-in-Ok-run_alone-clause-runs g c left left_now failed failed_now = runs_so g c left left_now failed failed_now

pub returns-in-Ok-run_alone-clause-counted : goal.returns-in-Ok-run_alone-clause-counted
returns-in-Ok-run_alone-clause-counted g c = count_so g c None None 0 0

pub returns-in-Ok-run_alone-clause-early : goal.returns-in-Ok-run_alone-clause-early
returns-in-Ok-run_alone-clause-early g c = elim (stopped_or_not c.run_alone.new.items.items) [
  | inl none ↦ none_early c.left_dirty.result (none_so g c None None 0 0 none)
  | inr stopped ↦ early_count _ _ c.left_dirty.result (stopped_so g c None None 0 0 stopped) (λ own unread. unread_early c.deref-in-Ok-run_alone.result.now _ _ own unread)
]

pub returns-in-Ok-run_alone-clause-of_one : goal.returns-in-Ok-run_alone-clause-of_one
returns-in-Ok-run_alone-clause-of_one g c = c.runs_are_of_one_node.ensures.lone c.args.script.now c.run_alone.ensures.lone.0 c.run_alone.new.items.items (for_one c.args.script.now c.requires.form) c.run_alone.ensures.lone.1

-- ---- it ended early

module _ (g : Over) (c : goal.After-first_line g) where
  its_line : IfOfScript c.in-Err-run_alone.end (IsPlacedEnd (λ line. line < length c.args.script.now.lines))
  its_line =
      let given : Inputs = inputs (g.D.SharedDisk.state c.args.disk.now) (g.D.SharedDisk.list c.args.disk.now) (g.D.SharedDisk.faults c.args.disk.now) None 0 in
      let now : Inputs = inputs (g.D.SharedDisk.state c.run_alone.new.disk) (g.D.SharedDisk.list c.run_alone.new.disk) (g.D.SharedDisk.faults c.run_alone.new.disk) None 0 in
      placed_so given now (g.D.SharedDisk.faults c.prepare.new.disk) c.args.script.now c.args.time c.run_alone.new.items.items c.in-Ok.prepared.view c.in-Ok.prepared.journals.items c.in-Ok.prepared.plans.items c.in-Ok.ensures.prepared
      c.in-Err-run_alone.end
      (at_start (λ d l js ps. HasRunAlone (inputs d l (g.D.SharedDisk.faults c.args.disk.now) None 0) now (g.D.SharedDisk.faults c.prepare.new.disk) c.in-Ok.prepared.view js ps c.args.script.now c.args.time c.run_alone.new.items.items
      (Err c.in-Err-run_alone.end)) c.in-Ok.ensures.reads.same c.in-Ok.ensures.reads.list c.deref.ensures.value c.deref-2.ensures.value
      (record {
        goes = c.in-Err-run_alone.ensures.goes;
        headers = c.in-Err-run_alone.ensures.headers;
        disk = c.in-Err-run_alone.ensures.disk;
        lone = c.in-Err-run_alone.ensures.lone;
        whole = tt;
        cause = c.in-Err-run_alone.ensures.cause;
      }))

pub status_of_end-requires : goal.status_of_end-requires
status_of_end-requires g c =
    let few = c.requires.well.few_lines in
    let first = c.first_line.ensures in
    placed_line (λ line. line < length c.args.script.now.lines) (λ line. c.first_line.result + line < 2 ^ 32) (λ line low. omega (arith, few, first, low)) c.in-Err-run_alone.end (its_line g c)

module _ (g : Over) (c : goal.After-drop-journals-2 g) where
  abbrev early_laws : RunLaws
  early_laws = record {
    stand = c.runs_stand.ensures;
    told = c.runs_are_told.ensures;
    legal = c.runs_are_legal.ensures;
    end = c.runs_end.ensures;
    profile = c.runs_keep_the_profile.ensures;
    rest = c.runs_rest.ensures;
    damage = c.runs_meet_no_damage.ensures;
    written = c.nothing_is_written.ensures;
    replays = c.runs_tell_their_replays.ensures;
    seen = c.runs_see_their_damage.ensures;
    serve = c.mounted_journals_serve.ensures;
    follow = c.runs_of_one_node_follow.ensures.follows;
    numbered = c.runs_of_one_node_follow.ensures.numbered;
    answer = c.whole_runs_answer_all.ensures;
    leaves = c.a_replay_leaves_its_image.ensures;
    left_by = c.what_a_replay_leaves_stands.ensures.by;
    clean_stand = c.clean_images_stay.ensures.stand;
    left_mounts = c.what_a_replay_leaves_mounts.ensures;
    left_profile = c.what_a_replay_leaves_is_of_the_profile.ensures;
    calls = c.calls_tell_broken_blocks.ensures.exact;
    needs = c.needs_out_of_the_device_tell_broken_blocks.ensures;
    read = c.views_may_be_read_from_mounted_images.ensures;
  }

  module _ (left left_now : Option (List ℕ)) (failed failed_now : ℕ) where
    abbrev given_early : Inputs
    given_early = inputs (g.D.SharedDisk.state c.args.disk.now) (g.D.SharedDisk.list c.args.disk.now) (g.D.SharedDisk.faults c.args.disk.now) left failed

    abbrev left_early : Inputs
    left_early = inputs (g.D.SharedDisk.state c.run_alone.new.disk) (g.D.SharedDisk.list c.run_alone.new.disk) (g.D.SharedDisk.faults c.run_alone.new.disk) left_now failed_now

    ran_early : HasRunAlone given_early left_early (g.D.SharedDisk.faults c.prepare.new.disk) c.in-Ok.prepared.view c.in-Ok.prepared.journals.items c.in-Ok.prepared.plans.items c.args.script.now c.args.time c.run_alone.new.items.items (Err c.in-Err-run_alone.end)
    ran_early = at_start (λ d l js ps. HasRunAlone (inputs d l (g.D.SharedDisk.faults c.args.disk.now) left failed) left_early (g.D.SharedDisk.faults c.prepare.new.disk) c.in-Ok.prepared.view js ps c.args.script.now c.args.time c.run_alone.new.items.items
        (Err c.in-Err-run_alone.end)) c.in-Ok.ensures.reads.same c.in-Ok.ensures.reads.list c.deref.ensures.value c.deref-2.ensures.value
        (record {
          goes = c.in-Err-run_alone.ensures.goes;
          headers = c.in-Err-run_alone.ensures.headers;
          disk = c.in-Err-run_alone.ensures.disk;
          lone = c.in-Err-run_alone.ensures.lone;
          whole = tt;
          cause = c.in-Err-run_alone.ensures.cause;
        })

    early : Runs given_early left_early c.args.script.now c.args.time c.run_alone.new.items.items (status_of_run (first_line c.args.script.now) c.in-Err-run_alone.end)
    early = early_so early_laws given_early left_early (g.D.SharedDisk.faults c.prepare.new.disk) c.args.script.now c.args.time c.run_alone.new.items.items (for_one c.args.script.now c.requires.form) c.requires.small c.requires.idle c.requires.size
        c.in-Ok.prepared.view c.in-Ok.prepared.journals.items c.in-Ok.prepared.plans.items c.in-Ok.ensures.prepared c.in-Err-run_alone.end ran_early c.in-Ok.ensures.reads.later

pub returns-clause-runs : goal.returns-clause-runs
returns-clause-runs g c left left_now failed failed_now =
    subst (Runs (given_early g c left left_now failed failed_now) (left_early g c left left_now failed failed_now) c.args.script.now c.args.time c.run_alone.new.items.items)
    (sym (c.status_of_end.ensures ∙ ap (λ n. status_of_run n c.in-Err-run_alone.end) c.first_line.ensures)) (early g c left left_now failed failed_now)

pub returns-clause-early : goal.returns-clause-early
returns-clause-early g c is = early_never_done (first_line c.args.script.now) c.in-Err-run_alone.end (sym (c.status_of_end.ensures ∙ ap (λ n. status_of_run n c.in-Err-run_alone.end) c.first_line.ensures) ∙ is)

pub returns-clause-of_one : goal.returns-clause-of_one
returns-clause-of_one g c = c.runs_are_of_one_node.ensures.lone c.args.script.now c.run_alone.ensures.lone.0 c.run_alone.new.items.items (for_one c.args.script.now c.requires.form) c.run_alone.ensures.lone.1
