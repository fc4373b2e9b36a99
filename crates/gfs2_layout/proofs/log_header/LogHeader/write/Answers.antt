use Rattle.std.proofs.Common.{◌<◌, ◌^◌, ap, ◌∙◌, drop, subst, ℕ, List}
use Rattle.gfs2_layout.specs.Structures.{log_read}
use Rattle.gfs2_layout.specs.Checksum.{checksum_of, with_checksum}
use Rattle.gfs2_layout.proofs.ReadBackMore.{log_back, log_behind}
use Rattle.gfs2_layout.proofs.log_header.LogHeader.write.Goals as goal

pub returns-clause-bytes : goal.returns-clause-bytes
returns-clause-bytes c = c.put_checksum.ensures.bytes ∙ ap (with_checksum 48 44) c.put_numbers.ensures.bytes

pub returns-clause-read : goal.returns-clause-read
returns-clause-read c =
    let low = subst (λ (b : List ℕ). checksum_of 48 44 b < 2 ^ 32) c.put_numbers.ensures.bytes c.put_checksum.ensures.width in
    ap log_read (c.put_checksum.ensures.bytes ∙ ap (with_checksum 48 44) c.put_numbers.ensures.bytes) ∙ log_back c.args.self.now c.args.block.now c.requires c.put_numbers.ensures.widths low

pub returns-clause-behind : goal.returns-clause-behind
returns-clause-behind c = ap (drop 48) (c.put_checksum.ensures.bytes ∙ ap (with_checksum 48 44) c.put_numbers.ensures.bytes) ∙ log_behind c.args.self.now c.args.block.now c.requires
