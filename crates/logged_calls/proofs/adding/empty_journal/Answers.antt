use Rattle.logged_node.proofs.Carrying.{ok_map}
use Rattle.logged_calls.proofs.Moved.{come_moved, none_due, still_here}
use Rattle.logged_calls.proofs.adding.empty_journal.Goals as goal

pub returns-then-has_live-clause-moved : goal.returns-then-has_live-clause-moved
returns-then-has_live-clause-moved g c =
    ok_map c.make_room.result _ _
    (λ come. come_moved (g.D.SharedDisk.state c.args.disk.now) (g.D.SharedDisk.state c.make_room.new.disk) (g.D.SharedDisk.list c.args.disk.now) (g.D.SharedDisk.list c.make_room.new.disk) c.args.node.now c.make_room.new.node c.requires.ready come) c.make_room.ensures.came

pub returns-then-has_live-clause-due : goal.returns-then-has_live-clause-due
returns-then-has_live-clause-due g c =
    ok_map c.make_room.result _ _
    (λ come. none_due (g.D.SharedDisk.state c.args.disk.now) (g.D.SharedDisk.state c.make_room.new.disk) (g.D.SharedDisk.list c.args.disk.now) (g.D.SharedDisk.list c.make_room.new.disk) c.args.node.now c.make_room.new.node c.requires.none come) c.make_room.ensures.came

pub returns-else-has_live-clause-moved : goal.returns-else-has_live-clause-moved
returns-else-has_live-clause-moved g c = still_here 1 (g.D.SharedDisk.state c.args.disk.now) (g.D.SharedDisk.list c.args.disk.now) c.args.node.now c.requires.ready
