use Rattle.std.proofs.Common.{arith}
use Rattle.dinode_tree.proofs.Spans.{span_some}
use Rattle.dinode_tree.proofs.numbers.split.Goals as goal

pub nonzero_div-result : goal.nonzero_div-result
nonzero_div-result c = omega (arith, c.in-Some.ensures.some, span_some c.args.size c.args.level c.requires)

pub nonzero_rem-result : goal.nonzero_rem-result
nonzero_rem-result c = omega (arith, c.in-Some.ensures.some, span_some c.args.size c.args.level c.requires)
