use Rattle.std.proofs.Common.{None, refl, sym, subst, ◌∙◌}
use Rattle.cluster_program.specs.Course.{LacksRoom, ReplaysImage, replay_script}
use Rattle.cluster_program.specs.Runs.{Runs, own_of}
use Rattle.cluster_program.specs.Dirty.{IsDirtyCount}
use Rattle.run_reports.specs.OneNode.{IsOfOneNode}
use Rattle.run_reports.specs.Report.{IsSinkFault}
use Rattle.cluster_program.specs.World.{inputs}
use Rattle.script_lang.specs.Script.{ScriptValue}
use Rattle.cluster_program.proofs.Courses.{as_carried, course_of, of_one_nothing}
use Rattle.cluster_program.proofs.Counts.{as_counted}
use Rattle.cluster_program.proofs.Ends.{no_run_fault}
use Rattle.cluster_program.proofs.top.replay.Goals as goal

pub returns-in-Err-clause-course : goal.returns-in-Err-clause-course
returns-in-Err-clause-course g c = λ words left failed asks.
    course_of words _ _ c.without_script.ensures.listing c.without_script.ensures.script c.requires.none c.without_script.ensures.lines c.without_script.ensures.own (LacksRoom asks refl)

pub returns-in-Err-clause-one : goal.returns-in-Err-clause-one
returns-in-Err-clause-one g c = of_one_nothing c.runs_are_of_one_node.ensures.nothing c.without_script.ensures.script c.requires.none

pub returns-in-Err-clause-counted : goal.returns-in-Err-clause-counted
returns-in-Err-clause-counted g c own some = absurd (some c.requires.none)

pub returns-clause-course : goal.returns-clause-course
returns-clause-course g c = λ words left failed asks.
    let given = inputs (g.D.SharedDisk.state c.args.disk.now) (g.D.SharedDisk.list c.args.disk.now) (g.D.SharedDisk.faults c.args.disk.now) left failed in
    let now = inputs (g.D.SharedDisk.state c.mount_and_run-run.new.disk) (g.D.SharedDisk.list c.mount_and_run-run.new.disk) (g.D.SharedDisk.faults c.mount_and_run-run.new.disk) left failed in
    let own = own_of c.mount_and_run-run.result in
    let runs = c.mount_and_run-run.ensures.runs left left failed failed in
    let run : Runs given now replay_script 0 c.mount_and_run-run.new.items.items own = subst (λ (s : ScriptValue). Runs given now s 0 c.mount_and_run-run.new.items.items own) c.in-Ok.ensures.script runs in
    as_carried words given now c.carried_run.ensures.listing (c.carried_run.ensures.script ∙ c.in-Ok.ensures.script) c.carried_run.ensures.lines c.carried_run.ensures.own
    (ReplaysImage c.mount_and_run-run.new.items.items own asks (record { left = refl; faults = refl }) run)

pub returns-clause-own : goal.returns-clause-own
returns-clause-own g c =
    let runs = c.mount_and_run-run.ensures.runs None None 0 0 in
    λ fault. no_run_fault _ _ c.in-Ok.script 0 c.mount_and_run-run.new.items.items runs.value (own_of c.mount_and_run-run.result) runs.ends (subst IsSinkFault c.carried_run.ensures.own fault)

pub returns-clause-one : goal.returns-clause-one
returns-clause-one g c = subst (λ s. IsOfOneNode s c.mount_and_run-run.new.items.items) (sym c.carried_run.ensures.script) c.mount_and_run-run.ensures.of_one

pub returns-clause-counted : goal.returns-clause-counted
returns-clause-counted g c own some =
    subst (λ s. IsDirtyCount (g.D.SharedDisk.state c.args.disk.now) (g.D.SharedDisk.state c.mount_and_run-run.new.disk) s c.mount_and_run-run.new.items.items c.carried_run.result.dirty) (sym c.carried_run.ensures.script)
    (as_counted c.mount_and_run-run.result (IsDirtyCount (g.D.SharedDisk.state c.args.disk.now) (g.D.SharedDisk.state c.mount_and_run-run.new.disk) c.in-Ok.script c.mount_and_run-run.new.items.items) c.mount_and_run-run.ensures.counted c.mount_and_run-run.ensures.early (sym c.carried_run.ensures.own ∙ own) c.carried_run.ensures.dirty)
