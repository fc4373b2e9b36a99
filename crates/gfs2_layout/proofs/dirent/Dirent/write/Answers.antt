use Rattle.std.proofs.Common.{ap, ◌∙◌, arith, drop}
use Rattle.gfs2_layout.specs.Structures.{dirent_of, dirent_read}
use Rattle.gfs2_layout.specs.Writing.{dirent_fields}
use Rattle.gfs2_layout.proofs.FieldsInPlace.{drop-fields}
use Rattle.gfs2_layout.proofs.ReadBack.{head_back, dirent_back}
use Rattle.gfs2_layout.proofs.dirent.Dirent.write.Goals as goal

pub returns-clause-head : goal.returns-clause-head
returns-clause-head c = ap dirent_of c.put_fields.ensures.bytes ∙ head_back c.args.self.now c.args.bytes.now c.requires c.put_fields.ensures.widths

pub returns-clause-read : goal.returns-clause-read
returns-clause-read c = ap dirent_read c.put_fields.ensures.bytes ∙ dirent_back c.args.self.now c.args.bytes.now c.requires c.put_fields.ensures.widths

pub returns-clause-behind : goal.returns-clause-behind
returns-clause-behind c = ap (drop 40) c.put_fields.ensures.bytes ∙ drop-fields (dirent_fields c.args.self.now) c.args.bytes.now (omega (arith, c.requires)) 40 (omega arith)
