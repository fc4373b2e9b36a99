use Rattle.std.proofs.Common.{arith}
use Rattle.dinode_tree.proofs.Spans.{span_some}
use Rattle.file_walks.proofs.numbers.place_over.Goals as goal

pub nonzero_div-result : goal.nonzero_div-result
nonzero_div-result c = omega (arith, c.in-Some.ensures.some, span_some c.args.size c.args.up c.requires)
