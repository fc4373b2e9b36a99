use Rattle.logged_calls.proofs.Added.{added_behind, no_place_behind, ok_is}
use Rattle.logged_calls.proofs.adding.add_behind.Goals as goal

pub returns-in-Ok-clause-added : goal.returns-in-Ok-clause-added
returns-in-Ok-clause-added g c is =
    added_behind (g.D.SharedDisk.state c.args.disk.now) (g.D.SharedDisk.state c.empty_journal.new.disk) (g.D.SharedDisk.list c.args.disk.now) (g.D.SharedDisk.list c.empty_journal.new.disk) c.args.node.now c.empty_journal.new.node c.take_change.new.node c.args.change.now c.in-Ok.ensures.moved c.requires.low c.take_change.result (ok_is is) c.take_change.ensures.taken c.take_change.ensures.exactly.0 (c.take_change.ensures.resting (g.D.SharedDisk.state c.empty_journal.new.disk))

pub returns-in-Ok-clause-not : goal.returns-in-Ok-clause-not
returns-in-Ok-clause-not g c is =
    no_place_behind (g.D.SharedDisk.state c.args.disk.now) (g.D.SharedDisk.state c.empty_journal.new.disk) (g.D.SharedDisk.list c.args.disk.now) (g.D.SharedDisk.list c.empty_journal.new.disk) c.args.node.now c.empty_journal.new.node c.take_change.new.node c.args.change.now c.in-Ok.ensures.moved c.in-Ok.ensures.due c.in-Ok.ensures.empty c.take_change.result (ok_is is) c.take_change.ensures.kept c.take_change.ensures.exactly.1
