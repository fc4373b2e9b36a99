use Rattle.std.proofs.Common.{ap, ◌∙◌, arith, drop}
use Rattle.gfs2_layout.specs.Fields.{with_fields}
use Rattle.gfs2_layout.specs.Structures.{superblock_read}
use Rattle.gfs2_layout.specs.Writing.{superblock_fields}
use Rattle.gfs2_layout.proofs.FieldsInPlace.{drop-fields}
use Rattle.gfs2_layout.proofs.ReadBack.{HasLengths, texts_with, superblock_back}
use Rattle.gfs2_layout.proofs.superblock.SuperBlock.write.Goals as goal

pub returns-clause-read : goal.returns-clause-read
returns-clause-read c =
    let lengths : HasLengths c.args.self.now = record { lock_protocol = c.put_texts.ensures.lock_protocol; lock_table = c.put_texts.ensures.lock_table; uuid = c.put_texts.ensures.uuid } in
    let texts = texts_with c.args.self.now c.args.bytes.now c.put_texts.new.bytes c.put_texts.ensures.bytes c.requires lengths in
    ap superblock_read c.put_fields.ensures.bytes ∙ superblock_back c.args.self.now c.args.bytes.now c.put_texts.new.bytes texts c.put_fields.ensures.widths

pub returns-clause-behind : goal.returns-clause-behind
returns-clause-behind c =
    let lengths : HasLengths c.args.self.now = record { lock_protocol = c.put_texts.ensures.lock_protocol; lock_table = c.put_texts.ensures.lock_table; uuid = c.put_texts.ensures.uuid } in
    let texts = texts_with c.args.self.now c.args.bytes.now c.put_texts.new.bytes c.put_texts.ensures.bytes c.requires lengths in
    ap (drop 272) c.put_fields.ensures.bytes ∙ drop-fields (superblock_fields c.args.self.now) c.put_texts.new.bytes (omega (arith, texts.long)) 272 (omega arith) ∙ texts.behind

pub returns-clause-bytes : goal.returns-clause-bytes
returns-clause-bytes c = c.put_fields.ensures.bytes ∙ ap (with_fields (superblock_fields c.args.self.now)) c.put_texts.ensures.bytes
