use Rattle.std.proofs.Common.{ap, ◌∙◌, arith, drop}
use Rattle.gfs2_layout.specs.Structures.{dinode_read}
use Rattle.gfs2_layout.specs.Writing.{dinode_fields}
use Rattle.gfs2_layout.proofs.FieldsInPlace.{drop-fields}
use Rattle.gfs2_layout.proofs.ReadBack.{dinode_back}
use Rattle.gfs2_layout.proofs.dinode.Dinode.write.Goals as goal

pub returns-clause-read : goal.returns-clause-read
returns-clause-read c = ap dinode_read c.put_fields.ensures.bytes ∙ dinode_back c.args.self.now c.args.bytes.now c.requires c.put_fields.ensures.widths

pub returns-clause-behind : goal.returns-clause-behind
returns-clause-behind c = ap (drop 232) c.put_fields.ensures.bytes ∙ drop-fields (dinode_fields c.args.self.now) c.args.bytes.now (omega (arith, c.requires)) 232 (omega arith)
