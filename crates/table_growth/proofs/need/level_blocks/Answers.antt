use Rattle.std.proofs.Common.{◌<◌, ◌∙◌, ap, arith}
use Rattle.gfs2_layout.specs.Inode.{pieces}
use Rattle.dinode_tree.proofs.Spans.{pieces_of, span_some}
use Rattle.table_growth.proofs.need.level_blocks.Goals as goal

pub div_ceil-requires : goal.div_ceil-requires
div_ceil-requires c = omega (arith, c.in-Some.ensures.some, span_some c.args.size c.args.level c.requires.large)

pub returns-in-Some-clause-value : goal.returns-in-Some-clause-value
returns-in-Some-clause-value c =
    let some : 0 < c.in-Some.span = omega (arith, c.in-Some.ensures.some, span_some c.args.size c.args.level c.requires.large) in
    c.div_ceil.ensures ∙ pieces_of c.args.count c.in-Some.span some ∙ ap (pieces c.args.count) c.in-Some.ensures.some
