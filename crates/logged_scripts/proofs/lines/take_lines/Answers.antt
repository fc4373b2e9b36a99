use Rattle.std.proofs.Common.{sym, ap, ◌∙◌, subst, arith}
use Rattle.script_lang.specs.Script.{ScriptValue}
use Rattle.script_lang.specs.declared.script.Line.TheVariants as line
use Rattle.logged_calls.specs.Nodes.{point_of}
use Rattle.logged_scripts.specs.declared.halts.Halt.{Halt}
use Rattle.logged_scripts.specs.Ends.{HasCause, IfEnded, halt_at}
use Rattle.logged_scripts.specs.Runs.{HasHalted}
use Rattle.logged_scripts.proofs.Beginning.{begins, fresh}
use Rattle.logged_scripts.proofs.Causes.{cause_of_call, cause_since}
use Rattle.logged_scripts.proofs.Disks.{same_steps}
use Rattle.logged_scripts.proofs.Taking.{call_halts, call_is_taken, client_named, crash_line_halts, next_line, wait_passes}
use Rattle.logged_scripts.proofs.lines.take_lines.Goals.{in-Call+in-Ok, in-Wait}
use Rattle.logged_scripts.proofs.lines.take_lines.Goals as goal

pub loop-place-init : goal.loop-place-init
loop-place-init g c = record {
  under_way = begins c.args.script.now c.args.stamp.now.time (g.D.SharedDisk.state c.args.disk.now) (g.D.SharedDisk.list c.args.disk.now) c.args.node.now c.requires.begun;
  later = λ i. omega arith;
}

pub returns-in-Err-clause-halted : goal.returns-in-Err-clause-halted
returns-in-Err-clause-halted g c =
    let s = c.args.script.now in
    let disk = g.D.SharedDisk.state c.args.disk.now in
    let list = g.D.SharedDisk.list c.args.disk.now in
    let time = c.args.stamp.now.time in
    let a = point_of disk list c.args.node.now in
    let said = c.in-Err.ensures in
    let next = next_line s.lines c.deref-line-items.result.now c.loop-place.place c.line-item.result (line.Call c.in-Call.client c.in-Call.call) (c.deref-line-items.ensures.value ∙ ap (λ (x : ScriptValue). x.lines) c.script.view_is) c.loop-place-test.true
    c.line-item.is c.in-Call.is in
    subst (λ (h : Halt). HasHalted s time a (g.D.SharedDisk.state c.take_call.new.disk) (g.D.SharedDisk.list c.take_call.new.disk) c.take_call.new.node.items.items h) (sym c.halt_of_call.ensures)
    (call_halts s time a c.loop-place.place (g.D.SharedDisk.state c.loop-place.disk) (g.D.SharedDisk.state c.take_call.new.disk) (g.D.SharedDisk.list c.loop-place.disk) (g.D.SharedDisk.list c.take_call.new.disk) c.loop-place.node
    c.take_call.new.node (fresh s time disk list c.args.node.now c.requires.begun) c.loop-place.invariant.under_way c.in-Call.client c.in-Call.call next c.in-Err.end said.stopped said.failed said.damaged said.sound said.unbuilt said.built
    said.too_small said.unloggable)

pub returns-in-Err-clause-cause : goal.returns-in-Err-clause-cause
returns-in-Err-clause-cause g c =
    let disk = g.D.SharedDisk.state c.args.disk.now in
    let places = c.args.node.now.log.journal.places in
    let before = g.D.SharedDisk.faults c.args.disk.now in
    let mid = g.D.SharedDisk.faults c.loop-place.disk in
    let now = g.D.SharedDisk.faults c.take_call.new.disk in
    let end = c.in-Err.end in
    let same =
    same_steps c.args.stamp.now.time (point_of disk (g.D.SharedDisk.list c.args.disk.now) c.args.node.now) (point_of (g.D.SharedDisk.state c.loop-place.disk) (g.D.SharedDisk.list c.loop-place.disk) c.loop-place.node)
    c.loop-place.invariant.under_way.steps
    in
    subst (λ (h : Halt). IfEnded h (HasCause disk.count places before now)) (sym c.halt_of_call.ensures)
    (cause_since disk.count places before mid now (halt_at c.loop-place.place end) c.loop-place.invariant.later
    (cause_of_call disk.count (g.D.SharedDisk.state c.loop-place.disk).count c.loop-place.place places mid now end same.count c.in-Err.ensures.cause))

pub returns-in-Crash-clause-halted : goal.returns-in-Crash-clause-halted
returns-in-Crash-clause-halted g c =
    let s = c.args.script.now in
    let disk = g.D.SharedDisk.state c.args.disk.now in
    let list = g.D.SharedDisk.list c.args.disk.now in
    let time = c.args.stamp.now.time in
    let next = next_line s.lines c.deref-line-items.result.now c.loop-place.place c.line-item.result (line.Crash c.in-Crash.field-0) (c.deref-line-items.ensures.value ∙ ap (λ (x : ScriptValue). x.lines) c.script.view_is) c.loop-place-test.true
    c.line-item.is c.in-Crash.is in
    crash_line_halts s time (point_of disk list c.args.node.now) c.loop-place.place (g.D.SharedDisk.state c.loop-place.disk) (g.D.SharedDisk.list c.loop-place.disk) c.loop-place.node (fresh s time disk list c.args.node.now c.requires.begun)
    c.loop-place.invariant.under_way c.in-Crash.field-0 next

pub loop-place-preserved : goal.loop-place-preserved
loop-place-preserved g c =
    let s = c.args.script.now in
    let time = c.args.stamp.now.time in
    let a = point_of (g.D.SharedDisk.state c.args.disk.now) (g.D.SharedDisk.list c.args.disk.now) c.args.node.now in
    let so = c.loop-place.invariant in
    let lines = c.deref-line-items.ensures.value ∙ ap (λ (x : ScriptValue). x.lines) c.script.view_is in
    elim c.match-line.branch [
      | in-Call+in-Ok w ↦
          let next = next_line s.lines c.deref-line-items.result.now c.loop-place.place c.line-item.result (line.Call w.in-Call.client w.in-Call.call) lines c.loop-place-test.true c.line-item.is w.in-Call.is in
          let named = client_named s c.script.inside.clients.items w.in-Call.client c.loop-place.place w.in-Call.call w.index.result.now c.requires.form next (ap (λ (x : ScriptValue). x.clients) c.script.view_is) w.index.ensures in
          rw (w.disk-is, w.node-is) (record {
            under_way = call_is_taken s time a c.loop-place.place (g.D.SharedDisk.state c.loop-place.disk) (g.D.SharedDisk.state w.take_call.new.disk) (g.D.SharedDisk.list c.loop-place.disk) (g.D.SharedDisk.list w.take_call.new.disk)
                c.loop-place.node w.take_call.new.node c.requires.form so.under_way w.in-Call.client w.in-Call.call next w.index.result.now.name named w.in-Ok.ensures.taken;
            later = λ i. let low = so.later i in let more = w.in-Ok.ensures.later i in omega (arith, low, more);
          })
      | in-Wait w ↦
          let next = next_line s.lines c.deref-line-items.result.now c.loop-place.place c.line-item.result line.Wait lines c.loop-place-test.true c.line-item.is w.in-Wait.is in
          rw (w.disk-is, w.node-is) (record {
            under_way = wait_passes s time a c.loop-place.place (g.D.SharedDisk.state c.loop-place.disk) (g.D.SharedDisk.list c.loop-place.disk) c.loop-place.node so.under_way next;
            later = so.later;
          })
    ]
