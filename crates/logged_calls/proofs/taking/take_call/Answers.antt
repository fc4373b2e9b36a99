use Rattle.logged_calls.proofs.Added.{map_end}
use Rattle.logged_calls.proofs.KeptBlocks.{on_ok}
use Rattle.logged_calls.proofs.Taken.{ends_behind, looked_ends, taken_behind}
use Rattle.logged_calls.proofs.taking.take_call.Goals as goal

pub returns-in-Ok-clause-taken : goal.returns-in-Ok-clause-taken
returns-in-Ok-clause-taken g c =
    on_ok c.tell.result _ _ (taken_behind (g.D.SharedDisk.state c.args.disk.now) (g.D.SharedDisk.state c.look.new.disk) (g.D.SharedDisk.state c.tell.new.disk) (g.D.SharedDisk.list c.args.disk.now) (g.D.SharedDisk.list c.look.new.disk) (g.D.SharedDisk.list c.tell.new.disk) c.args.node.now c.look.new.node c.tell.new.node c.in-Ok.ensures.looked c.args.stamp.now.time c.args.client.now c.args.call.now) c.tell.ensures.taken

pub returns-in-Ok-clause-stopped : goal.returns-in-Ok-clause-stopped
returns-in-Ok-clause-stopped g c =
    map_end c.tell.result _ _ (ends_behind (g.D.SharedDisk.state c.args.disk.now) (g.D.SharedDisk.state c.look.new.disk) (g.D.SharedDisk.state c.tell.new.disk) (g.D.SharedDisk.list c.args.disk.now) (g.D.SharedDisk.list c.look.new.disk) (g.D.SharedDisk.list c.tell.new.disk) c.args.node.now c.look.new.node c.tell.new.node c.in-Ok.ensures.looked) c.tell.ensures.stopped

pub returns-in-Err-clause-stopped : goal.returns-in-Err-clause-stopped
returns-in-Err-clause-stopped g c =
    looked_ends (g.D.SharedDisk.state c.args.disk.now) (g.D.SharedDisk.state c.look.new.disk) (g.D.SharedDisk.list c.args.disk.now) (g.D.SharedDisk.list c.look.new.disk) c.args.node.now c.look.new.node c.in-Err.ensures.looked c.in-Err.why c.end_of.result c.end_of.ensures
