use Rattle.std.proofs.Common.{ℕ, Option, refl, subst}
use Rattle.logged_node.specs.Leaving.{at_first, bringing_in, going_home}
use Rattle.logged_node.specs.Nodes.{StopsByCrash}
use Rattle.logged_node.proofs.Unmounting.{crashes_flushed, goes_leaving, has_left, is_ready, leaves_flushed, leaves_here, leaves_left, leaves_ready, left_with_all, result_both, rests_leaving, stops_first}
use Rattle.logged_node.proofs.Ended.{cause_of_all}
use Rattle.logged_node.proofs.Onward.{map_err}
use Rattle.logged_node.proofs.Carrying.{ok_both}
use Rattle.logged_node.proofs.leaving.make_ready.Goals as goal

-- it couldn't even leave

pub returns-in-Err-clause-stopped : goal.returns-in-Err-clause-stopped
returns-in-Err-clause-stopped g c = at_first c.in-Err.ensures.why refl refl c.in-Err.ensures.same

pub returns-in-Err-clause-ends : goal.returns-in-Err-clause-ends
returns-in-Err-clause-ends g c = leaves_here (g.D.SharedDisk.state c.args.disk.now) (g.D.SharedDisk.list c.args.disk.now) c.args.node.now c.leave.new.node.items.items c.in-Err.ensures.same

pub returns-in-Err-clause-crashes : goal.returns-in-Err-clause-crashes
returns-in-Err-clause-crashes g c = stops_first c.args.node.now c.leave.new.node.items.items c.in-Err.why c.requires.resting.on.awaits c.in-Err.ensures.why c.in-Err.ensures.same

-- it brings in what is due

pub bring_in-requires-clause-resting : goal.bring_in-requires-clause-resting
bring_in-requires-clause-resting g c = rests_leaving (g.D.SharedDisk.state c.args.disk.now) (g.D.SharedDisk.list c.args.disk.now) c.args.node.now c.leave.new.node c.requires.resting c.requires.mounted c.in-Ok.ensures.left c.in-Ok.ensures.item

pub returns-in-Err-bring_in-clause-stopped : goal.returns-in-Err-bring_in-clause-stopped
returns-in-Err-bring_in-clause-stopped g c = bringing_in c.leave.new.node (has_left c.args.node.now c.leave.new.node c.in-Ok.ensures.left c.in-Ok.ensures.item) c.in-Err-bring_in.ensures.stopped c.in-Err-bring_in.ensures.sent

pub returns-in-Err-bring_in-clause-ends : goal.returns-in-Err-bring_in-clause-ends
returns-in-Err-bring_in-clause-ends g c =
    leaves_left (g.D.SharedDisk.state c.args.disk.now) (g.D.SharedDisk.state c.bring_in.new.disk) (g.D.SharedDisk.list c.args.disk.now) (g.D.SharedDisk.list c.bring_in.new.disk) c.args.node.now c.leave.new.node c.bring_in.new.node.items.items c.in-Err-bring_in.why (goes_leaving (g.D.SharedDisk.state c.args.disk.now) (g.D.SharedDisk.list c.args.disk.now) c.args.node.now c.leave.new.node c.requires.resting c.requires.mounted c.in-Ok.ensures.left c.in-Ok.ensures.item) (has_left c.args.node.now c.leave.new.node c.in-Ok.ensures.left c.in-Ok.ensures.item) c.in-Err-bring_in.ensures.stopped

pub returns-in-Err-bring_in-clause-crashes : goal.returns-in-Err-bring_in-clause-crashes
returns-in-Err-bring_in-clause-crashes g c =
    subst (λ (x : Option ℕ). StopsByCrash x c.bring_in.new.node.items.items c.in-Err-bring_in.why) (goes_leaving (g.D.SharedDisk.state c.args.disk.now) (g.D.SharedDisk.list c.args.disk.now) c.args.node.now c.leave.new.node c.requires.resting c.requires.mounted c.in-Ok.ensures.left c.in-Ok.ensures.item).armed c.in-Err-bring_in.ensures.stopped.crashes

-- it takes all home

pub returns-clause-ready : goal.returns-clause-ready
returns-clause-ready g c =
    ok_both c.go_home.result _ _ _ _
    (λ home rests _. is_ready (g.D.SharedDisk.state c.args.disk.now) (g.D.SharedDisk.state c.bring_in.new.disk) (g.D.SharedDisk.state c.go_home.new.disk) (g.D.SharedDisk.list c.args.disk.now) (g.D.SharedDisk.list c.bring_in.new.disk) (g.D.SharedDisk.list c.go_home.new.disk) c.args.node.now c.leave.new.node c.bring_in.new.node c.go_home.new.node (goes_leaving (g.D.SharedDisk.state c.args.disk.now) (g.D.SharedDisk.list c.args.disk.now) c.args.node.now c.leave.new.node c.requires.resting c.requires.mounted c.in-Ok.ensures.left c.in-Ok.ensures.item) (has_left c.args.node.now c.leave.new.node c.in-Ok.ensures.left c.in-Ok.ensures.item) c.in-Ok-bring_in.ensures.brought c.in-Ok-bring_in.ensures.sent home rests)
    c.go_home.ensures.home c.go_home.ensures.rests c.go_home.ensures.rests

pub returns-clause-stopped : goal.returns-clause-stopped
returns-clause-stopped g c =
    map_err c.go_home.result _ _
    (λ why stops. going_home (g.D.SharedDisk.state c.bring_in.new.disk) (g.D.SharedDisk.list c.bring_in.new.disk) c.bring_in.new.node
    (left_with_all (g.D.SharedDisk.state c.args.disk.now) (g.D.SharedDisk.state c.bring_in.new.disk) (g.D.SharedDisk.list c.args.disk.now) (g.D.SharedDisk.list c.bring_in.new.disk) c.args.node.now c.leave.new.node c.bring_in.new.node (has_left c.args.node.now c.leave.new.node c.in-Ok.ensures.left c.in-Ok.ensures.item) c.in-Ok-bring_in.ensures.brought c.in-Ok-bring_in.ensures.sent) stops c.go_home.ensures.order)
    c.go_home.ensures.stopped

pub returns-clause-ends : goal.returns-clause-ends
returns-clause-ends g c =
    result_both c.go_home.result _ _ _
    (λ both. leaves_ready (g.D.SharedDisk.state c.args.disk.now) (g.D.SharedDisk.state c.go_home.new.disk) (g.D.SharedDisk.list c.args.disk.now) (g.D.SharedDisk.list c.go_home.new.disk) c.args.node.now c.go_home.new.node
    (is_ready (g.D.SharedDisk.state c.args.disk.now) (g.D.SharedDisk.state c.bring_in.new.disk) (g.D.SharedDisk.state c.go_home.new.disk) (g.D.SharedDisk.list c.args.disk.now) (g.D.SharedDisk.list c.bring_in.new.disk) (g.D.SharedDisk.list c.go_home.new.disk) c.args.node.now c.leave.new.node c.bring_in.new.node c.go_home.new.node (goes_leaving (g.D.SharedDisk.state c.args.disk.now) (g.D.SharedDisk.list c.args.disk.now) c.args.node.now c.leave.new.node c.requires.resting c.requires.mounted c.in-Ok.ensures.left c.in-Ok.ensures.item) (has_left c.args.node.now c.leave.new.node c.in-Ok.ensures.left c.in-Ok.ensures.item) c.in-Ok-bring_in.ensures.brought c.in-Ok-bring_in.ensures.sent both.0 both.1))
    (λ why stops. leaves_flushed (g.D.SharedDisk.state c.args.disk.now) (g.D.SharedDisk.state c.bring_in.new.disk) (g.D.SharedDisk.state c.go_home.new.disk) (g.D.SharedDisk.list c.args.disk.now) (g.D.SharedDisk.list c.bring_in.new.disk) (g.D.SharedDisk.list c.go_home.new.disk) c.args.node.now c.leave.new.node c.bring_in.new.node c.go_home.new.node.items.items why (goes_leaving (g.D.SharedDisk.state c.args.disk.now) (g.D.SharedDisk.list c.args.disk.now) c.args.node.now c.leave.new.node c.requires.resting c.requires.mounted c.in-Ok.ensures.left c.in-Ok.ensures.item) (has_left c.args.node.now c.leave.new.node c.in-Ok.ensures.left c.in-Ok.ensures.item) c.in-Ok-bring_in.ensures.brought stops)
    (ok_both c.go_home.result _ _ _ (_ × _) (λ home rests _. (home, rests)) c.go_home.ensures.home c.go_home.ensures.rests c.go_home.ensures.rests) c.go_home.ensures.stopped

pub returns-clause-crashes : goal.returns-clause-crashes
returns-clause-crashes g c =
    map_err c.go_home.result _ _ (λ why stops. crashes_flushed (g.D.SharedDisk.state c.args.disk.now) (g.D.SharedDisk.state c.bring_in.new.disk) (g.D.SharedDisk.state c.go_home.new.disk) (g.D.SharedDisk.list c.args.disk.now) (g.D.SharedDisk.list c.bring_in.new.disk) (g.D.SharedDisk.list c.go_home.new.disk) c.args.node.now c.leave.new.node c.bring_in.new.node c.go_home.new.node.items.items why (goes_leaving (g.D.SharedDisk.state c.args.disk.now) (g.D.SharedDisk.list c.args.disk.now) c.args.node.now c.leave.new.node c.requires.resting c.requires.mounted c.in-Ok.ensures.left c.in-Ok.ensures.item) c.in-Ok-bring_in.ensures.brought stops) c.go_home.ensures.stopped

pub returns-clause-cause : goal.returns-clause-cause
returns-clause-cause g c =
    map_err c.go_home.result _ _
    (λ why cause. cause_of_all _ _ (g.D.SharedDisk.faults c.args.disk.now) (g.D.SharedDisk.faults c.bring_in.new.disk) (g.D.SharedDisk.faults c.go_home.new.disk) why c.in-Ok-bring_in.ensures.brought.goes.disk.count (c.in-Ok-bring_in.ensures.later 1) cause)
    c.go_home.ensures.cause
