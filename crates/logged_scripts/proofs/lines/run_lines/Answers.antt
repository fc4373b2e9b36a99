use Rattle.std.proofs.Common.{ℕ, Option, sym, ◌∙◌, subst}
use Rattle.logged_calls.specs.Nodes.{IsBeforeCrash, point_of}
use Rattle.logged_calls.proofs.Arming.{before_crash}
use Rattle.logged_scripts.specs.declared.halts.Halt.{Halt}
use Rattle.logged_scripts.specs.Ends.{HasCause, IfEnded, halt_of}
use Rattle.logged_scripts.specs.Runs.{HasHalted}
use Rattle.logged_scripts.proofs.Beginning.{fresh}
use Rattle.logged_scripts.proofs.Causes.{cause_of_stop, cause_since}
use Rattle.logged_scripts.proofs.Disks.{same_steps}
use Rattle.logged_scripts.proofs.Leaving.{stops, unmounted}
use Rattle.logged_scripts.proofs.lines.run_lines.Goals as goal

pub returns-in-Ok-unmount-clause-halted : goal.returns-in-Ok-unmount-clause-halted
returns-in-Ok-unmount-clause-halted g c =
    let s = c.args.script.now in
    let disk = g.D.SharedDisk.state c.args.disk.now in
    let list = g.D.SharedDisk.list c.args.disk.now in
    let time = c.args.stamp.now.time in
    let so = c.in-Ok.ensures.taken in
    let node = c.unmount.new.node in
    let said = c.in-Ok-unmount.ensures in
    let before = subst (λ (o : Option ℕ). IsBeforeCrash o node.items.items) (said.armed ∙ so.crash) (before_crash node.armed node.items.items said.awaits) in
    unmounted s time (point_of disk list c.args.node.now) (g.D.SharedDisk.state c.take_lines.new.disk) (g.D.SharedDisk.list c.take_lines.new.disk) c.take_lines.new.node (fresh s time disk list c.args.node.now c.requires.begun) so
    (g.D.SharedDisk.state c.unmount.new.disk) (g.D.SharedDisk.list c.unmount.new.disk) node.items.items before said.unmounted

pub returns-in-Err-unmount-clause-halted : goal.returns-in-Err-unmount-clause-halted
returns-in-Err-unmount-clause-halted g c =
    let s = c.args.script.now in
    let disk = g.D.SharedDisk.state c.args.disk.now in
    let list = g.D.SharedDisk.list c.args.disk.now in
    let time = c.args.stamp.now.time in
    let a = point_of disk list c.args.node.now in
    let so = c.in-Ok.ensures.taken in
    let now = g.D.SharedDisk.state c.unmount.new.disk in
    let told = g.D.SharedDisk.list c.unmount.new.disk in
    let items = c.unmount.new.node.items.items in
    subst (λ (h : Halt). HasHalted s time a now told items h) (sym c.halt_of_stop.ensures)
    (stops s time a (g.D.SharedDisk.state c.take_lines.new.disk) (g.D.SharedDisk.list c.take_lines.new.disk) c.take_lines.new.node (fresh s time disk list c.args.node.now c.requires.begun) so now told items c.in-Err-unmount.why
    c.in-Err-unmount.ensures.crashes c.in-Err-unmount.ensures.stopped)

pub returns-in-Err-unmount-clause-cause : goal.returns-in-Err-unmount-clause-cause
returns-in-Err-unmount-clause-cause g c =
    let disk = g.D.SharedDisk.state c.args.disk.now in
    let places = c.args.node.now.log.journal.places in
    let before = g.D.SharedDisk.faults c.args.disk.now in
    let mid = g.D.SharedDisk.faults c.take_lines.new.disk in
    let now = g.D.SharedDisk.faults c.unmount.new.disk in
    let there = g.D.SharedDisk.state c.take_lines.new.disk in
    let same =
    same_steps c.args.stamp.now.time (point_of disk (g.D.SharedDisk.list c.args.disk.now) c.args.node.now) (point_of there (g.D.SharedDisk.list c.take_lines.new.disk) c.take_lines.new.node) c.in-Ok.ensures.taken.steps
    in
    subst (λ (h : Halt). IfEnded h (HasCause disk.count places before now)) (sym c.halt_of_stop.ensures)
    (cause_since disk.count places before mid now (halt_of c.in-Err-unmount.why) c.take_lines.ensures.later (cause_of_stop disk.count there.count places mid now c.in-Err-unmount.why same.count c.in-Err-unmount.ensures.cause))
