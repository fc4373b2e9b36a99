-- Each byte goes from what is left into the state.
use Rattle.std.proofs.Common.{◌+◌, ap, ◌∙◌, drop, bit_xor}
use Rattle.crc_words.specs.Remainder.{after_bits, remainder}
use Rattle.crc_words.proofs.TextLemmas.{remainder-more, remainder-all}
use Rattle.crc_words.proofs.plain.remainder_bit_by_bit.Goals as goal

pub loop-byte-preserved : goal.loop-byte-preserved
loop-byte-preserved c =
    let i = c.loop-byte.byte-index in
    ap (λ s. remainder c.args.polynomial s (drop (i + 1) c.args.bytes.now))
    (c.after_eight_bits-state.ensures ∙ ap (λ b. after_bits c.args.polynomial 8 (bit_xor c.loop-byte.state b)) c.from.ensures)
    ∙ remainder-more c.args.polynomial c.loop-byte.state c.args.bytes.now i c.loop-byte-test.true
    ∙ c.loop-byte.invariant

pub returns : goal.returns
returns c =
    remainder-all c.args.polynomial c.loop-byte.state c.args.bytes.now c.loop-byte.byte-index c.loop-byte-test.false
    ∙ c.loop-byte.invariant
