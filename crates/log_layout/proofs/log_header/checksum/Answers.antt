use Rattle.std.proofs.Common.{ap, ◌∙◌, ◌-◌, length, drop, arith, length-drop}
use Rattle.std.proofs.lemmas.List.{take_all}
use Rattle.crc_words.specs.Remainder.{crc32c_raw_of}
use Rattle.log_layout.specs.Headers.{crc_of}
use Rattle.log_layout.proofs.log_header.checksum.Goals as goal

pub returns : goal.returns
unfolding crc_of
returns c = c.crc32c_raw.ensures ∙ ap crc32c_raw_of (take_all (length c.args.bytes.now - 52) (drop 52 c.args.bytes.now) (omega (arith, length-drop 52 c.args.bytes.now)))
