use Rattle.std.proofs.Common.{ap, ◌∙◌, arith, drop}
use Rattle.gfs2_layout.specs.Structures.{header_read}
use Rattle.gfs2_layout.specs.Writing.{header_fields}
use Rattle.gfs2_layout.proofs.FieldsInPlace.{drop-fields}
use Rattle.gfs2_layout.proofs.ReadBack.{header_back}
use Rattle.gfs2_layout.proofs.header.MetaHeader.write.Goals as goal

pub returns-clause-read : goal.returns-clause-read
returns-clause-read c = ap header_read c.put_fields.ensures.bytes ∙ header_back c.args.self.now c.args.bytes.now c.requires c.put_fields.ensures.widths

pub returns-clause-behind : goal.returns-clause-behind
returns-clause-behind c = ap (drop 24) c.put_fields.ensures.bytes ∙ drop-fields (header_fields c.args.self.now) c.args.bytes.now (omega (arith, c.requires)) 24 (omega arith)
