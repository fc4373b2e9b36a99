use Rattle.std.proofs.Common.{true≢false, sym, ap, ◌∙◌}
use Rattle.logged_node.specs.declared.node.Node.{Node}
use Rattle.logged_node.proofs.Carrying.{barrier_carried, last_carried}
use Rattle.logged_node.proofs.flushing.end_part.Goals as goal

pub returns-then-not-is_flushing-clause-carried : goal.returns-then-not-is_flushing-clause-carried
returns-then-not-is_flushing-clause-carried g c =
    last_carried (g.D.SharedDisk.state c.args.disk.now) (g.D.SharedDisk.state c.put_barrier.new.disk) (g.D.SharedDisk.list c.args.disk.now) (g.D.SharedDisk.list c.put_barrier.new.disk) c.args.node.now c.put_barrier.new.node c.commit.new.node c.args.node.now.block.items
    c.in-Ok.ensures.made c.in-Ok.ensures.gains (sym (ap (λ (x : Node). x.log.flush) c.in-Ok.ensures.node) ∙ c.is_flushing.ensures.0 c.if-not-is_flushing.true) c.commit.ensures.node c.commit.ensures.items

pub returns-else-not-is_flushing-clause-carried : goal.returns-else-not-is_flushing-clause-carried
returns-else-not-is_flushing-clause-carried g c =
    barrier_carried (g.D.SharedDisk.state c.args.disk.now) (g.D.SharedDisk.state c.put_barrier.new.disk) (g.D.SharedDisk.list c.args.disk.now) (g.D.SharedDisk.list c.put_barrier.new.disk) c.args.node.now c.put_barrier.new.node c.args.node.now.block.items
    c.in-Ok.ensures.made c.in-Ok.ensures.gains (λ none. true≢false (sym c.if-not-is_flushing.false ∙ c.is_flushing.ensures.1 (ap (λ (x : Node). x.log.flush) c.in-Ok.ensures.node ∙ none)))
