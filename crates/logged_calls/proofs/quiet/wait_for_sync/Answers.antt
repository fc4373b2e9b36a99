use Rattle.std.proofs.Common.{arith}
use Rattle.logged_node.proofs.Onward.{map_err}
use Rattle.logged_calls.proofs.Moved.{brought_moved, moved_few, still_here, stops_untold}
use Rattle.logged_calls.proofs.Taken.{both_done}
use Rattle.logged_calls.proofs.quiet.wait_for_sync.Goals as goal

pub returns-then-sync-clause-moved : goal.returns-then-sync-clause-moved
returns-then-sync-clause-moved g c =
    both_done c.bring_in.result _ _ _ (λ brought synced. moved_few 2 3 (g.D.SharedDisk.state c.args.disk.now) (g.D.SharedDisk.state c.bring_in.new.disk) (g.D.SharedDisk.list c.args.disk.now) (g.D.SharedDisk.list c.bring_in.new.disk) c.args.node.now c.bring_in.new.node (omega arith) (brought_moved (g.D.SharedDisk.state c.args.disk.now) (g.D.SharedDisk.state c.bring_in.new.disk) (g.D.SharedDisk.list c.args.disk.now) (g.D.SharedDisk.list c.bring_in.new.disk) c.args.node.now c.bring_in.new.node c.requires.ready brought synced)) c.bring_in.ensures.brought (c.bring_in.ensures.synced c.requires.ready.counted)

pub returns-then-sync-clause-synced : goal.returns-then-sync-clause-synced
returns-then-sync-clause-synced g c is = c.bring_in.ensures.synced c.requires.ready.counted

pub returns-then-sync-clause-stopped : goal.returns-then-sync-clause-stopped
returns-then-sync-clause-stopped g c =
    map_err c.bring_in.result _ _
    (λ why stops. stops_untold 2 (g.D.SharedDisk.state c.args.disk.now) (g.D.SharedDisk.state c.bring_in.new.disk) (g.D.SharedDisk.list c.args.disk.now) (g.D.SharedDisk.list c.bring_in.new.disk) c.args.node.now c.bring_in.new.node.items.items why (omega arith) c.requires.ready stops)
    c.bring_in.ensures.stopped

pub returns-else-sync-clause-moved : goal.returns-else-sync-clause-moved
returns-else-sync-clause-moved g c =
    still_here 3 (g.D.SharedDisk.state c.args.disk.now) (g.D.SharedDisk.list c.args.disk.now) c.args.node.now c.requires.ready
