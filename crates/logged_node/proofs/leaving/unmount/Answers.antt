use Rattle.std.proofs.Common.{ℕ, Option, refl, sym, subst, ◌∙◌}
use Rattle.logged_node.specs.Leaving.{StopsAtHeader, at_the_end, clean_still, with_header}
use Rattle.logged_node.specs.Nodes.{StopsByCrash, point_of}
use Rattle.logged_node.proofs.Unmounting.{header_crashes, header_next, leaves_ended, leaves_stopped, result_both}
use Rattle.logged_node.proofs.Ended.{cause_of_all}
use Rattle.logged_node.proofs.Onward.{map_err}
use Rattle.logged_node.proofs.Carrying.{ok_map}
use Rattle.logged_node.proofs.leaving.unmount.Goals as goal

pub returns-then-is_clean-clause-unmounted : goal.returns-then-is_clean-clause-unmounted
returns-then-is_clean-clause-unmounted g c = clean_still c.make_ready.new.node c.in-Ok.ensures.ready (sym c.is_clean.ensures ∙ c.if-is_clean.true) refl

pub returns-else-is_clean-clause-unmounted : goal.returns-else-is_clean-clause-unmounted
returns-else-is_clean-clause-unmounted g c =
    ok_map c.write_last.result _ _
    (λ written. with_header (g.D.SharedDisk.state c.make_ready.new.disk) (g.D.SharedDisk.list c.make_ready.new.disk) c.make_ready.new.node c.in-Ok.ensures.ready (sym c.is_clean.ensures ∙ c.if-is_clean.false) written
    (header_next (g.D.SharedDisk.state c.args.disk.now) (g.D.SharedDisk.state c.make_ready.new.disk) (g.D.SharedDisk.list c.args.disk.now) (g.D.SharedDisk.list c.make_ready.new.disk) c.args.node.now c.make_ready.new.node written.bytes c.in-Ok.ensures.ready written.flies.flies)) c.write_last.ensures.written

pub returns-else-is_clean-clause-stopped : goal.returns-else-is_clean-clause-stopped
returns-else-is_clean-clause-stopped g c =
    map_err c.write_last.result _ _
    (λ why stops. at_the_end (g.D.SharedDisk.state c.make_ready.new.disk) (g.D.SharedDisk.list c.make_ready.new.disk) c.make_ready.new.node c.in-Ok.ensures.ready (sym c.is_clean.ensures ∙ c.if-is_clean.false)
    (subst (λ (x : Option ℕ). StopsAtHeader (point_of (g.D.SharedDisk.state c.make_ready.new.disk) (g.D.SharedDisk.list c.make_ready.new.disk) c.make_ready.new.node) x (g.D.SharedDisk.state c.write_last.new.disk) (g.D.SharedDisk.list c.write_last.new.disk) c.write_last.new.node.items.items why) c.in-Ok.ensures.ready.goes.armed stops)) c.write_last.ensures.stopped

pub returns-else-is_clean-clause-ends : goal.returns-else-is_clean-clause-ends
returns-else-is_clean-clause-ends g c =
    result_both c.write_last.result _ _ _
    (λ written. leaves_ended (g.D.SharedDisk.state c.args.disk.now) (g.D.SharedDisk.state c.make_ready.new.disk) (g.D.SharedDisk.state c.write_last.new.disk) (g.D.SharedDisk.list c.args.disk.now) (g.D.SharedDisk.list c.make_ready.new.disk) (g.D.SharedDisk.list c.write_last.new.disk) c.args.node.now c.make_ready.new.node c.write_last.new.node.items.items c.in-Ok.ensures.ready written)
    (λ why stops. leaves_stopped (g.D.SharedDisk.state c.args.disk.now) (g.D.SharedDisk.state c.make_ready.new.disk) (g.D.SharedDisk.state c.write_last.new.disk) (g.D.SharedDisk.list c.args.disk.now) (g.D.SharedDisk.list c.make_ready.new.disk) (g.D.SharedDisk.list c.write_last.new.disk) c.args.node.now c.make_ready.new.node c.write_last.new.node.items.items c.in-Ok.ensures.ready why
    (subst (λ (x : Option ℕ). StopsAtHeader (point_of (g.D.SharedDisk.state c.make_ready.new.disk) (g.D.SharedDisk.list c.make_ready.new.disk) c.make_ready.new.node) x (g.D.SharedDisk.state c.write_last.new.disk) (g.D.SharedDisk.list c.write_last.new.disk) c.write_last.new.node.items.items why) c.in-Ok.ensures.ready.goes.armed stops))
    c.write_last.ensures.written c.write_last.ensures.stopped

pub returns-else-is_clean-clause-crashes : goal.returns-else-is_clean-clause-crashes
returns-else-is_clean-clause-crashes g c =
    map_err c.write_last.result _ _
    (λ why stops. subst (λ (x : Option ℕ). StopsByCrash x c.write_last.new.node.items.items why) c.in-Ok.ensures.ready.goes.armed
    (header_crashes (point_of (g.D.SharedDisk.state c.make_ready.new.disk) (g.D.SharedDisk.list c.make_ready.new.disk) c.make_ready.new.node) _ (g.D.SharedDisk.state c.write_last.new.disk) (g.D.SharedDisk.list c.write_last.new.disk) c.write_last.new.node.items.items why stops)) c.write_last.ensures.stopped

pub returns-else-is_clean-clause-cause : goal.returns-else-is_clean-clause-cause
returns-else-is_clean-clause-cause g c =
    map_err c.write_last.result _ _
    (λ why cause. cause_of_all _ _ (g.D.SharedDisk.faults c.args.disk.now) (g.D.SharedDisk.faults c.make_ready.new.disk) (g.D.SharedDisk.faults c.write_last.new.disk) why c.in-Ok.ensures.ready.goes.disk.count (c.in-Ok.ensures.later 1) cause)
    c.write_last.ensures.cause

pub returns-else-is_clean-clause-armed : goal.returns-else-is_clean-clause-armed
returns-else-is_clean-clause-armed g c = ok_map c.write_last.result _ _ (λ same. same ∙ c.in-Ok.ensures.ready.goes.armed) c.write_last.ensures.armed
