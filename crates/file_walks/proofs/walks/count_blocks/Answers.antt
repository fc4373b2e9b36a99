use Rattle.std.proofs.Common.{◌∙◌, ap, arith}
use Rattle.gfs2_layout.specs.Inode.{pieces}
use Rattle.dinode_tree.proofs.Spans.{pieces_of}
use Rattle.file_walks.proofs.walks.count_blocks.Goals as goal

pub returns : goal.returns
returns c = c.div_ceil.ensures ∙ pieces_of _ _ (omega (arith, c.unit.ensures.some)) ∙ ap (pieces c.args.dinode.now.size) c.unit.ensures.value
