use Rattle.std.proofs.Common.{◌≡◌, ℕ, List, None, refl, sym, subst, ◌∙◌}
use Rattle.script_lang.specs.Script.{ScriptValue}
use Rattle.trace_text.specs.declared.item.TraceItem.{TraceItem}
use Rattle.cluster_program.specs.World.{Inputs}
use Rattle.run_reports.specs.declared.status.Status.{Status}
use Rattle.cluster_program.specs.Runs.{Runs, own_of}
use Rattle.cluster_program.specs.Dirty.{IsDirtyCount}
use Rattle.run_reports.specs.OneNode.{IsOfOneNode}
use Rattle.run_reports.specs.Report.{IsSinkFault}
use Rattle.cluster_program.specs.Course.{NoScript, RunsScript}
use Rattle.cluster_program.proofs.Courses.{as_carried, course_of, of_one_nothing}
use Rattle.cluster_program.proofs.Counts.{as_counted}
use Rattle.cluster_program.proofs.Ends.{no_run_fault}
use Rattle.cluster_program.proofs.top.read_and_run.Goals as goal

pub returns-in-Err-clause-course : goal.returns-in-Err-clause-course
returns-in-Err-clause-course g c = λ words asks time.
    course_of words _ _ c.without_script.ensures.listing c.without_script.ensures.script c.requires.none c.without_script.ensures.lines c.without_script.ensures.own
    (NoScript c.in-Err.own asks c.in-Err.ensures.none (record { state_is = refl; list_is = refl }) refl)

-- the run's time is that of the words
runs_at : (given left : Inputs) (s : ScriptValue) (time told : ℕ) (items : List TraceItem) (own : Status) → time ≡ told → Runs given left s time items own → Runs given left s told items own
runs_at given left s time told items own same runs = subst (λ t. Runs given left s t items own) same runs

pub returns-in-Err-clause-one : goal.returns-in-Err-clause-one
returns-in-Err-clause-one g c = of_one_nothing c.runs_are_of_one_node.ensures.nothing c.without_script.ensures.script c.requires.none

pub returns-in-Err-clause-counted : goal.returns-in-Err-clause-counted
returns-in-Err-clause-counted g c own some = absurd (some c.requires.none)

pub returns-clause-course : goal.returns-clause-course
returns-clause-course g c = λ words asks time.
    let read = c.in-Ok.ensures.script in
    let own = own_of c.mount_and_run-run.result in
    let ran = RunsScript read.0 c.in-Ok.script c.mount_and_run-run.new.items.items own asks read.1 read.2 c.in-Ok.ensures.built.0
    (runs_at _ _ c.in-Ok.script c.args.time asks.run.time c.mount_and_run-run.new.items.items own time (c.mount_and_run-run.ensures.runs _ _ _ _)) in
    as_carried words _ _ c.carried_run.ensures.listing c.carried_run.ensures.script c.carried_run.ensures.lines c.carried_run.ensures.own ran

pub returns-clause-own : goal.returns-clause-own
returns-clause-own g c =
    let runs = c.mount_and_run-run.ensures.runs None None 0 0 in
    λ fault. no_run_fault _ _ c.in-Ok.script c.args.time c.mount_and_run-run.new.items.items runs.value (own_of c.mount_and_run-run.result) runs.ends (subst IsSinkFault c.carried_run.ensures.own fault)

pub returns-clause-one : goal.returns-clause-one
returns-clause-one g c = subst (λ s. IsOfOneNode s c.mount_and_run-run.new.items.items) (sym c.carried_run.ensures.script) c.mount_and_run-run.ensures.of_one

pub returns-clause-counted : goal.returns-clause-counted
returns-clause-counted g c own some =
    subst (λ s. IsDirtyCount (g.D.SharedDisk.state c.args.disk.now) (g.D.SharedDisk.state c.mount_and_run-run.new.disk) s c.mount_and_run-run.new.items.items c.carried_run.result.dirty) (sym c.carried_run.ensures.script)
    (as_counted c.mount_and_run-run.result (IsDirtyCount (g.D.SharedDisk.state c.args.disk.now) (g.D.SharedDisk.state c.mount_and_run-run.new.disk) c.in-Ok.script c.mount_and_run-run.new.items.items) c.mount_and_run-run.ensures.counted c.mount_and_run-run.ensures.early (sym c.carried_run.ensures.own ∙ own) c.carried_run.ensures.dirty)
