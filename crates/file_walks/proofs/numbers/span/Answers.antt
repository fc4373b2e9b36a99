use Rattle.std.proofs.Common.{arith}
use Rattle.dinode_tree.proofs.Spans.{span_over}
use Rattle.file_walks.proofs.numbers.span.Goals as goal

pub returns-in-None-clause-none : goal.returns-in-None-clause-none
returns-in-None-clause-none c =
    span_over _ c.args.size c.loop-above._above c.args.level c.loop-above.span c.fan-fan.result c.requires c.loop-above.invariant c.fan-fan.ensures (omega (arith, c.in-None.ensures)) c.loop-above-test.true
