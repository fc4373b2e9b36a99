use Rattle.std.proofs.Common.{◌≡◌, length, refl, sym, ap, subst}
use Rattle.log_values.specs.declared.steps.LogStep.{LogStep}
use Rattle.trace_text.specs.declared.item.TraceItem.TheVariants as trace
use Rattle.logged_node.specs.declared.node.Node.{Node}
use Rattle.logged_node.specs.Ends.{IfMade}
use Rattle.logged_node.specs.Flushing.{IsCarried}
use Rattle.logged_node.specs.Flushing as carried
use Rattle.logged_node.specs.Nodes.{point_of}
use Rattle.logged_node.proofs.Carrying.{at_crash, made_both, made_ok, no_crash, one_more_flies}
use Rattle.logged_node.proofs.flushing.carry.Goals as goal

pub returns-in-Write-clause-carried : goal.returns-in-Write-clause-carried
returns-in-Write-clause-carried g c =
    subst (λ (s : LogStep). IfMade c.put_write.result (IsCarried c.args.node.now.block.items (point_of (g.D.SharedDisk.state c.args.disk.now) (g.D.SharedDisk.list c.args.disk.now) c.args.node.now)
    (point_of (g.D.SharedDisk.state c.put_write.new.disk) (g.D.SharedDisk.list c.put_write.new.disk) c.put_write.new.node) s)) (sym c.in-Write.is)
    (made_both c.put_write.result _ _ _ (λ made gains. carried.a_block c.in-Write.block (g.D.SharedDisk.list c.put_write.new.disk) gains made) c.put_write.ensures.made c.put_write.ensures.gains)

pub returns-in-Head-clause-carried : goal.returns-in-Head-clause-carried
returns-in-Head-clause-carried g c =
    subst (λ (s : LogStep). IfMade c.put_write-in-Head.result (IsCarried c.args.node.now.block.items (point_of (g.D.SharedDisk.state c.args.disk.now) (g.D.SharedDisk.list c.args.disk.now) c.args.node.now)
    (point_of (g.D.SharedDisk.state c.put_write-in-Head.new.disk) (g.D.SharedDisk.list c.put_write-in-Head.new.disk) c.put_write-in-Head.new.node) s)) (sym c.in-Head.is)
    (made_both c.put_write-in-Head.result _ _ _ (λ made gains. carried.a_header c.in-Head.block c.in-Head.sequence (g.D.SharedDisk.list c.put_write-in-Head.new.disk) gains made) c.put_write-in-Head.ensures.made c.put_write-in-Head.ensures.gains)

pub returns-in-Write-clause-flying : goal.returns-in-Write-clause-flying
returns-in-Write-clause-flying g c =
    made_ok c.put_write.result _ _ (λ is. is) (made_both c.put_write.result _ _ (c.put_write.new.node.flying ≡ length ((g.D.SharedDisk.state c.put_write.new.disk).in_flight 1))
    (λ node made. one_more_flies (g.D.SharedDisk.state c.args.disk.now) (g.D.SharedDisk.state c.put_write.new.disk) (g.D.SharedDisk.list c.args.disk.now) (g.D.SharedDisk.list c.put_write.new.disk) c.args.node.now c.put_write.new.node c.in-Write.block
    c.args.node.now.block.items (trace.WriteLog 1 c.in-Write.block) c.requires.count (ap (λ (x : Node). x.flying) node) made) c.put_write.ensures.node c.put_write.ensures.made)

pub returns-in-Head-clause-flying : goal.returns-in-Head-clause-flying
returns-in-Head-clause-flying g c =
    made_ok c.put_write-in-Head.result _ _ (λ is. is) (made_both c.put_write-in-Head.result _ _ (c.put_write-in-Head.new.node.flying ≡ length ((g.D.SharedDisk.state c.put_write-in-Head.new.disk).in_flight 1))
    (λ node made. one_more_flies (g.D.SharedDisk.state c.args.disk.now) (g.D.SharedDisk.state c.put_write-in-Head.new.disk) (g.D.SharedDisk.list c.args.disk.now) (g.D.SharedDisk.list c.put_write-in-Head.new.disk) c.args.node.now c.put_write-in-Head.new.node c.in-Head.block
    c.args.node.now.block.items (trace.WriteHead 1 c.in-Head.block c.in-Head.sequence c.args.node.now.numbers.begun) c.requires.count (ap (λ (x : Node). x.flying) node) made) c.put_write-in-Head.ensures.node c.put_write-in-Head.ensures.made)

pub returns-in-Write-clause-crashed : goal.returns-in-Write-clause-crashed
returns-in-Write-clause-crashed g c =
    at_crash (g.D.SharedDisk.state c.args.disk.now) (g.D.SharedDisk.state c.put_write.new.disk) (g.D.SharedDisk.list c.args.disk.now) (g.D.SharedDisk.list c.put_write.new.disk) c.args.node.now c.put_write.new.node c.in-Write.block
    c.args.node.now.block.items (trace.WriteLog 1 c.in-Write.block) c.put_write.result refl c.put_write.ensures.made c.put_write.ensures.crashed

pub returns-in-Head-clause-crashed : goal.returns-in-Head-clause-crashed
returns-in-Head-clause-crashed g c =
    at_crash (g.D.SharedDisk.state c.args.disk.now) (g.D.SharedDisk.state c.put_write-in-Head.new.disk) (g.D.SharedDisk.list c.args.disk.now) (g.D.SharedDisk.list c.put_write-in-Head.new.disk) c.args.node.now c.put_write-in-Head.new.node c.in-Head.block
    c.args.node.now.block.items (trace.WriteHead 1 c.in-Head.block c.in-Head.sequence c.args.node.now.numbers.begun) c.put_write-in-Head.result refl c.put_write-in-Head.ensures.made c.put_write-in-Head.ensures.crashed

pub returns-in-Barrier-clause-crashed : goal.returns-in-Barrier-clause-crashed
returns-in-Barrier-clause-crashed g c = no_crash c.end_part.result _ c.end_part.ensures.why
