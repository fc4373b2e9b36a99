use Rattle.std.proofs.Common.{◌+◌, ◌<◌, ◌^◌, ℕ, sym, subst, arith}
use Rattle.logged_calls.proofs.NoSpace.{no_space_taken}
use Rattle.logged_calls.proofs.Moved.{brought_moved, moved_few, stops_there, stops_untold}
use Rattle.logged_calls.proofs.full.answer_no_space.Goals as goal

pub returns-in-Err-clause-stopped : goal.returns-in-Err-clause-stopped
returns-in-Err-clause-stopped g c =
    stops_untold 2 (g.D.SharedDisk.state c.args.disk.now) (g.D.SharedDisk.state c.bring_in.new.disk) (g.D.SharedDisk.list c.args.disk.now) (g.D.SharedDisk.list c.bring_in.new.disk) c.args.node.now c.bring_in.new.node.items.items c.in-Err.why (omega arith) c.requires.ready c.in-Err.ensures.stopped

pub make_item-requires : goal.make_item-requires
make_item-requires g c = record { number = subst (λ (a : ℕ). a + 1 < 2 ^ 64) (sym c.in-Ok.ensures.brought.kept.answered) c.requires.number }

pub returns-in-Ok-make_item-clause-taken : goal.returns-in-Ok-make_item-clause-taken
returns-in-Ok-make_item-clause-taken g c =
    no_space_taken c.args._stamp.now.time c.args.client.now c.args.call.now c.args.need c.args.free (g.D.SharedDisk.state c.args.disk.now) (g.D.SharedDisk.state c.bring_in.new.disk) (g.D.SharedDisk.list c.args.disk.now) (g.D.SharedDisk.list c.bring_in.new.disk) c.args.node.now c.bring_in.new.node c.make_item.new.node c.put_full.new.node c.put_call.new.node
    (moved_few 2 3 (g.D.SharedDisk.state c.args.disk.now) (g.D.SharedDisk.state c.bring_in.new.disk) (g.D.SharedDisk.list c.args.disk.now) (g.D.SharedDisk.list c.bring_in.new.disk) c.args.node.now c.bring_in.new.node (omega arith) (brought_moved (g.D.SharedDisk.state c.args.disk.now) (g.D.SharedDisk.state c.bring_in.new.disk) (g.D.SharedDisk.list c.args.disk.now) (g.D.SharedDisk.list c.bring_in.new.disk) c.args.node.now c.bring_in.new.node c.requires.ready c.in-Ok.ensures.brought (c.in-Ok.ensures.synced c.requires.ready.counted)))
    (c.in-Ok.ensures.synced c.requires.ready.counted) c.requires.full c.in-Ok-make_item.ensures.node c.in-Ok-make_item.ensures.items c.put_full.ensures.node c.put_full.ensures.items c.put_call.ensures.node
    c.in-Ok-make_item.item c.in-Ok-make_item.ensures.item c.put_call.ensures.items

pub returns-in-Err-make_item-clause-stopped : goal.returns-in-Err-make_item-clause-stopped
returns-in-Err-make_item-clause-stopped g c =
    stops_there (g.D.SharedDisk.state c.args.disk.now) (g.D.SharedDisk.state c.bring_in.new.disk) (g.D.SharedDisk.list c.args.disk.now) (g.D.SharedDisk.list c.bring_in.new.disk) c.args.node.now c.bring_in.new.node c.make_item.new.node.items.items
    (moved_few 2 3 (g.D.SharedDisk.state c.args.disk.now) (g.D.SharedDisk.state c.bring_in.new.disk) (g.D.SharedDisk.list c.args.disk.now) (g.D.SharedDisk.list c.bring_in.new.disk) c.args.node.now c.bring_in.new.node (omega arith) (brought_moved (g.D.SharedDisk.state c.args.disk.now) (g.D.SharedDisk.state c.bring_in.new.disk) (g.D.SharedDisk.list c.args.disk.now) (g.D.SharedDisk.list c.bring_in.new.disk) c.args.node.now c.bring_in.new.node c.requires.ready c.in-Ok.ensures.brought (c.in-Ok.ensures.synced c.requires.ready.counted)))
    c.in-Err-make_item.ensures.items
