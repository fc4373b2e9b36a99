use Rattle.std.proofs.Common.{◌∙◌, ap, ap₂, sym, arith}
use Rattle.gfs2_layout.specs.Inode.{pieces}
use Rattle.gfs2_layout.specs.declared.dinode.Dinode.{Dinode}
use Rattle.dinode_tree.proofs.Dinodes.{held_is}
use Rattle.dinode_tree.proofs.Spans.{pieces_of}
use Rattle.dinode_tree.proofs.inode.Inode.content_count.Goals as goal

pub returns : goal.returns
returns c = c.div_ceil.ensures ∙ pieces_of _ _ (omega (arith, c.unit.ensures.least)) ∙ ap₂ pieces (ap (λ (d : Dinode). d.size) (sym (held_is c.args.self.now))) c.unit.ensures.value
