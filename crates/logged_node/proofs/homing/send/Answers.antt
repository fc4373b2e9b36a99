use Rattle.std.proofs.Common.{◌+◌, List, [], ◌∷◌, ◌++◌, None, Some, refl, ap, subst, ◌∙◌}
use Rattle.log_values.specs.Homing.{HomeAnswer}
use Rattle.log_values.specs.declared.steps.LogStep.{LogStep}
use Rattle.logged_steps.specs.Points.{Point}
use Rattle.trace_text.specs.declared.item.TraceItem.{TraceItem}
use Rattle.trace_text.specs.declared.item.TraceItem.TheVariants as trace
use Rattle.logged_node.specs.declared.node.Node.{Node}
use Rattle.logged_node.proofs.Homeward.{fewer, free, home_answers, inside, one_goes, order_sending, sent, stops_sending}
use Rattle.logged_node.proofs.Onward.{stops_here}
use Rattle.logged_node.proofs.Ordering.{so_far_same}
use Rattle.logged_node.proofs.Carrying.{at_crash, made_both, made_ok, ok_of_write}
use Rattle.logged_node.proofs.Stepped.{as_long, same_items, with_step}
use Rattle.logged_node.proofs.homing.send.Goals as goal

pub returns-in-Err-clause-stopped : goal.returns-in-Err-clause-stopped
returns-in-Err-clause-stopped g c = stops_here 0 (g.D.SharedDisk.state c.args.disk.now) (g.D.SharedDisk.list c.args.disk.now) c.args.node.now c.have_room.new.node.items.items c.in-Err.why c.requires.homing.on.awaits c.in-Err.ensures.why c.have_room.ensures.items

pub unreachable-requires : goal.unreachable-requires
unreachable-requires g c = one_goes c.args.node.now.log c.next_home.new.node.log c.args.lock c.next_home.new.node.block.items c.requires.homing.idle c.requires.next (home_answers c.args.node.now c.have_room.new.node c.next_home.new.node c.args.lock None c.have_room.ensures.node c.in-None.ensures.answer)

pub put_write-requires-clause-inside : goal.put_write-requires-clause-inside
put_write-requires-clause-inside g c =
    inside (g.D.SharedDisk.state c.args.disk.now) (g.D.SharedDisk.state c.args.disk.now) (g.D.SharedDisk.list c.args.disk.now) (g.D.SharedDisk.list c.args.disk.now) c.args.node.now c.next_home.new.node c.next_home.new.node c.args.lock c.in-Write.block c.requires.homing (with_step c.args.node.now c.have_room.new.node c.next_home.new.node c.have_room.ensures.node c.next_home.ensures.node)
    (same_items c.args.node.now c.have_room.new.node c.next_home.new.node c.next_home.ensures.node c.have_room.ensures.items) (as_long c.args.node.now c.have_room.new.node c.next_home.new.node c.have_room.ensures.node c.next_home.ensures.long)
    (subst (λ (s : LogStep). HomeAnswer c.args.node.now.log c.next_home.new.node.log c.args.lock c.next_home.new.node.block.items (Some s)) c.in-Write.is (home_answers c.args.node.now c.have_room.new.node c.next_home.new.node c.args.lock (Some c.in-Some.step) c.have_room.ensures.node c.in-Some.ensures.answer))

pub put_write-requires-clause-free : goal.put_write-requires-clause-free
put_write-requires-clause-free g c =
    free (g.D.SharedDisk.state c.args.disk.now) (g.D.SharedDisk.state c.args.disk.now) (g.D.SharedDisk.list c.args.disk.now) (g.D.SharedDisk.list c.args.disk.now) c.args.node.now c.next_home.new.node c.next_home.new.node c.args.lock c.in-Write.block c.requires.homing (with_step c.args.node.now c.have_room.new.node c.next_home.new.node c.have_room.ensures.node c.next_home.ensures.node)
    (same_items c.args.node.now c.have_room.new.node c.next_home.new.node c.next_home.ensures.node c.have_room.ensures.items) (as_long c.args.node.now c.have_room.new.node c.next_home.new.node c.have_room.ensures.node c.next_home.ensures.long)
    (subst (λ (s : LogStep). HomeAnswer c.args.node.now.log c.next_home.new.node.log c.args.lock c.next_home.new.node.block.items (Some s)) c.in-Write.is (home_answers c.args.node.now c.have_room.new.node c.next_home.new.node c.args.lock (Some c.in-Some.step) c.have_room.ensures.node c.in-Some.ensures.answer))

pub returns-clause-sent : goal.returns-clause-sent
returns-clause-sent g c =
    ok_of_write c.put_write.result _ _ _ _ _ _
    (λ made gained node awaits armed.
    sent (g.D.SharedDisk.state c.args.disk.now) (g.D.SharedDisk.state c.put_write.new.disk) (g.D.SharedDisk.list c.args.disk.now) (g.D.SharedDisk.list c.put_write.new.disk) c.args.node.now c.next_home.new.node c.put_write.new.node c.args.lock c.in-Write.block c.requires.homing (with_step c.args.node.now c.have_room.new.node c.next_home.new.node c.have_room.ensures.node c.next_home.ensures.node)
    (same_items c.args.node.now c.have_room.new.node c.next_home.new.node c.next_home.ensures.node c.have_room.ensures.items) (as_long c.args.node.now c.have_room.new.node c.next_home.new.node c.have_room.ensures.node c.next_home.ensures.long)
    (subst (λ (s : LogStep). HomeAnswer c.args.node.now.log c.next_home.new.node.log c.args.lock c.next_home.new.node.block.items (Some s)) c.in-Write.is (home_answers c.args.node.now c.have_room.new.node c.next_home.new.node c.args.lock (Some c.in-Some.step) c.have_room.ensures.node c.in-Some.ensures.answer))
    made gained node c.requires.few c.requires.next awaits armed)
    c.put_write.ensures.made c.put_write.ensures.gains c.put_write.ensures.node c.put_write.ensures.awaits c.put_write.ensures.armed

pub returns-clause-fewer : goal.returns-clause-fewer
returns-clause-fewer g c =
    ok_of_write c.put_write.result _ _ _ _ _ _
    (λ made gained node awaits armed.
    fewer (g.D.SharedDisk.state c.args.disk.now) (g.D.SharedDisk.state c.put_write.new.disk) (g.D.SharedDisk.list c.args.disk.now) (g.D.SharedDisk.list c.put_write.new.disk) c.args.node.now c.next_home.new.node c.put_write.new.node c.args.lock c.in-Write.block c.requires.homing (with_step c.args.node.now c.have_room.new.node c.next_home.new.node c.have_room.ensures.node c.next_home.ensures.node)
    (same_items c.args.node.now c.have_room.new.node c.next_home.new.node c.next_home.ensures.node c.have_room.ensures.items) (as_long c.args.node.now c.have_room.new.node c.next_home.new.node c.have_room.ensures.node c.next_home.ensures.long)
    (subst (λ (s : LogStep). HomeAnswer c.args.node.now.log c.next_home.new.node.log c.args.lock c.next_home.new.node.block.items (Some s)) c.in-Write.is (home_answers c.args.node.now c.have_room.new.node c.next_home.new.node c.args.lock (Some c.in-Some.step) c.have_room.ensures.node c.in-Some.ensures.answer))
    made gained node c.requires.few c.requires.next awaits armed)
    c.put_write.ensures.made c.put_write.ensures.gains c.put_write.ensures.node c.put_write.ensures.awaits c.put_write.ensures.armed

pub returns-clause-stopped : goal.returns-clause-stopped
returns-clause-stopped g c =
    stops_sending (g.D.SharedDisk.state c.args.disk.now) (g.D.SharedDisk.state c.put_write.new.disk) (g.D.SharedDisk.list c.args.disk.now) (g.D.SharedDisk.list c.put_write.new.disk) c.args.node.now c.next_home.new.node c.put_write.new.node c.args.lock c.in-Write.block c.requires.homing (with_step c.args.node.now c.have_room.new.node c.next_home.new.node c.have_room.ensures.node c.next_home.ensures.node)
    (same_items c.args.node.now c.have_room.new.node c.next_home.new.node c.next_home.ensures.node c.have_room.ensures.items) (as_long c.args.node.now c.have_room.new.node c.next_home.new.node c.have_room.ensures.node c.next_home.ensures.long)
    (subst (λ (s : LogStep). HomeAnswer c.args.node.now.log c.next_home.new.node.log c.args.lock c.next_home.new.node.block.items (Some s)) c.in-Write.is (home_answers c.args.node.now c.have_room.new.node c.next_home.new.node c.args.lock (Some c.in-Some.step) c.have_room.ensures.node c.in-Some.ensures.answer))
    c.put_write.result (made_both c.put_write.result _ _ _ (λ made gains. (made, gains)) c.put_write.ensures.made c.put_write.ensures.gains)
    (at_crash (g.D.SharedDisk.state c.args.disk.now) (g.D.SharedDisk.state c.put_write.new.disk) (g.D.SharedDisk.list c.args.disk.now) (g.D.SharedDisk.list c.put_write.new.disk) c.next_home.new.node c.put_write.new.node c.in-Write.block c.next_home.new.node.block.items (trace.WriteHome 1 c.in-Write.block) c.put_write.result refl c.put_write.ensures.made c.put_write.ensures.crashed)
    c.put_write.ensures.failed c.put_write.ensures.at c.put_write.ensures.kept

pub returns-in-Err-clause-order : goal.returns-in-Err-clause-order
returns-in-Err-clause-order g c = so_far_same c.args.node.now.log c.args.node.now.items.items c.have_room.new.node.items.items c.have_room.ensures.items

pub returns-clause-order : goal.returns-clause-order
returns-clause-order g c =
    order_sending (g.D.SharedDisk.state c.args.disk.now) (g.D.SharedDisk.state c.put_write.new.disk) (g.D.SharedDisk.list c.args.disk.now) (g.D.SharedDisk.list c.put_write.new.disk) c.args.node.now c.next_home.new.node c.put_write.new.node c.args.lock c.in-Write.block c.requires.homing (with_step c.args.node.now c.have_room.new.node c.next_home.new.node c.have_room.ensures.node c.next_home.ensures.node)
    (same_items c.args.node.now c.have_room.new.node c.next_home.new.node c.next_home.ensures.node c.have_room.ensures.items) (as_long c.args.node.now c.have_room.new.node c.next_home.new.node c.have_room.ensures.node c.next_home.ensures.long)
    (subst (λ (s : LogStep). HomeAnswer c.args.node.now.log c.next_home.new.node.log c.args.lock c.next_home.new.node.block.items (Some s)) c.in-Write.is (home_answers c.args.node.now c.have_room.new.node c.next_home.new.node c.args.lock (Some c.in-Some.step) c.have_room.ensures.node c.in-Some.ensures.answer))
    c.put_write.result c.requires.next c.put_write.ensures.made c.put_write.ensures.kept

pub returns-clause-told : goal.returns-clause-told
returns-clause-told g c =
    ok_of_write c.put_write.result _ _ _ _ _ _
    (λ made gained node awaits armed. (
      c.in-Write.block,
      ap (λ (x : Point). x.items) made ∙ ap (λ (is : List TraceItem). is ++ trace.WriteHome 1 c.in-Write.block ∷ []) (same_items c.args.node.now c.have_room.new.node c.next_home.new.node c.next_home.ensures.node c.have_room.ensures.items),
    ))
    c.put_write.ensures.made c.put_write.ensures.gains c.put_write.ensures.node c.put_write.ensures.awaits c.put_write.ensures.armed

pub returns-clause-flying : goal.returns-clause-flying
returns-clause-flying g c =
    made_ok c.put_write.result _ _
    (λ node. ap (λ (x : Node). x.flying) node ∙ ap (λ (x : Node). x.flying + 1) (with_step c.args.node.now c.have_room.new.node c.next_home.new.node c.have_room.ensures.node c.next_home.ensures.node)) c.put_write.ensures.node
