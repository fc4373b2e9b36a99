use Rattle.std.proofs.Common.{◌+◌, ◌<◌, ◌^◌, ℕ, sym, subst}
use Rattle.logged_calls.proofs.Moved.{stops_there}
use Rattle.logged_calls.proofs.Told.{quietly_taken}
use Rattle.logged_calls.proofs.quiet.answer_quietly.Goals as goal

pub make_item-requires : goal.make_item-requires
make_item-requires g c = record { number = subst (λ (a : ℕ). a + 1 < 2 ^ 64) (sym c.in-Ok.ensures.moved.kept.answered) c.requires.number }

pub returns-in-Ok-make_item-clause-taken : goal.returns-in-Ok-make_item-clause-taken
returns-in-Ok-make_item-clause-taken g c =
    quietly_taken c.args.stamp.now.time c.args.client.now c.args.call.now c.args.reply.now c.args._change.now (g.D.SharedDisk.state c.args.disk.now) (g.D.SharedDisk.state c.wait_for_sync.new.disk) (g.D.SharedDisk.list c.args.disk.now) (g.D.SharedDisk.list c.wait_for_sync.new.disk) c.args.node.now c.wait_for_sync.new.node c.make_item.new.node c.put_call.new.node c.in-Ok.ensures.moved c.requires.done c.requires.nothing c.in-Ok-make_item.ensures.node c.in-Ok-make_item.ensures.items c.put_call.ensures.node
    c.in-Ok-make_item.item c.in-Ok-make_item.ensures.item c.put_call.ensures.items c.is_done_sync.result c.is_done_sync.ensures.0 c.is_done_sync.ensures.1 c.in-Ok.ensures.synced

pub returns-in-Err-make_item-clause-stopped : goal.returns-in-Err-make_item-clause-stopped
returns-in-Err-make_item-clause-stopped g c =
    stops_there (g.D.SharedDisk.state c.args.disk.now) (g.D.SharedDisk.state c.wait_for_sync.new.disk) (g.D.SharedDisk.list c.args.disk.now) (g.D.SharedDisk.list c.wait_for_sync.new.disk) c.args.node.now c.wait_for_sync.new.node c.make_item.new.node.items.items c.in-Ok.ensures.moved c.in-Err-make_item.ensures.items
