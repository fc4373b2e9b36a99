use Rattle.std.proofs.Common.{ap, ◌∙◌, drop}
use Rattle.gfs2_layout.specs.Structures.{group_read}
use Rattle.gfs2_layout.specs.Checksum.{with_checksum}
use Rattle.gfs2_layout.proofs.ReadBackMore.{group_back, group_behind}
use Rattle.gfs2_layout.proofs.group_header.GroupHeader.write.Goals as goal

pub returns-clause-bytes : goal.returns-clause-bytes
returns-clause-bytes c = c.put_checksum.ensures.bytes ∙ ap (with_checksum 128 64) c.put_fields.ensures.bytes

pub returns-clause-read : goal.returns-clause-read
returns-clause-read c = ap group_read (c.put_checksum.ensures.bytes ∙ ap (with_checksum 128 64) c.put_fields.ensures.bytes) ∙ group_back c.args.self.now c.args.bytes.now c.requires c.put_fields.ensures.widths

pub returns-clause-behind : goal.returns-clause-behind
returns-clause-behind c = ap (drop 128) (c.put_checksum.ensures.bytes ∙ ap (with_checksum 128 64) c.put_fields.ensures.bytes) ∙ group_behind c.args.self.now c.args.bytes.now c.requires
