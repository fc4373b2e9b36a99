use Rattle.std.proofs.Common.{arith}
use Rattle.image_reader.proofs.Spans.{span_up, span_some}
use Rattle.image_reader.proofs.inode.Inode.span.Goals as goal

pub loop-above-preserved : goal.loop-above-preserved
loop-above-preserved c =
    span_up _ c.args.self.now.block.image.size c.loop-above._above _ _ _ c.loop-above.invariant c.fan-fan.ensures c.saturating_mul-span.ensures

pub returns-clause-some : goal.returns-clause-some
returns-clause-some c = grind (arith, span_some)
