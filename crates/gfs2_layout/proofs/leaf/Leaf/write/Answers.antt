use Rattle.std.proofs.Common.{ap, ◌∙◌, arith, drop}
use Rattle.gfs2_layout.specs.Structures.{leaf_read}
use Rattle.gfs2_layout.specs.Writing.{leaf_fields}
use Rattle.gfs2_layout.proofs.FieldsInPlace.{drop-fields}
use Rattle.gfs2_layout.proofs.ReadBackMore.{leaf_back}
use Rattle.gfs2_layout.proofs.leaf.Leaf.write.Goals as goal

pub returns-clause-read : goal.returns-clause-read
returns-clause-read c = ap leaf_read c.put_fields.ensures.bytes ∙ leaf_back c.args.self.now c.args.bytes.now c.requires c.put_fields.ensures.widths

pub returns-clause-behind : goal.returns-clause-behind
returns-clause-behind c = ap (drop 104) c.put_fields.ensures.bytes ∙ drop-fields (leaf_fields c.args.self.now) c.args.bytes.now (omega (arith, c.requires)) 104 (omega arith)
