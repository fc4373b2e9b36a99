use Rattle.std.proofs.Common.{ap, ◌∙◌, arith, drop}
use Rattle.gfs2_layout.specs.Structures.{rindex_read}
use Rattle.gfs2_layout.specs.Writing.{rindex_fields}
use Rattle.gfs2_layout.proofs.FieldsInPlace.{drop-fields}
use Rattle.gfs2_layout.proofs.ReadBackMore.{rindex_back}
use Rattle.gfs2_layout.proofs.rindex.Rindex.write.Goals as goal

pub returns-clause-read : goal.returns-clause-read
returns-clause-read c = ap rindex_read c.put_fields.ensures.bytes ∙ rindex_back c.args.self.now c.args.bytes.now c.requires c.put_fields.ensures.widths

pub returns-clause-behind : goal.returns-clause-behind
returns-clause-behind c = ap (drop 96) c.put_fields.ensures.bytes ∙ drop-fields (rindex_fields c.args.self.now) c.args.bytes.now (omega (arith, c.requires)) 96 (omega arith)
