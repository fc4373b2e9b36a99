use Rattle.image_replays.proofs.Stopped.{free_of, writable_of}
use Rattle.replayed_trees.proofs.plans.plan_journal.Goals as goal

pub returns-clause-writable : goal.returns-clause-writable
returns-clause-writable g c =
    writable_of (g.D.SharedDisk.state c.args.disk.now) c.args.marks.now c.look_at_journal.result c.requires.marks c.look_at_journal.ensures.rising c.look_at_journal.ensures.whole c.look_at_journal.ensures.free

pub returns-clause-free : goal.returns-clause-free
returns-clause-free g c = free_of (g.D.SharedDisk.state c.args.disk.now) c.args.marks.now c.look_at_journal.result c.requires.marks c.look_at_journal.ensures.free
