-- Each byte goes from what is left into the state.
use Rattle.std.proofs.Common.{◌+◌, ap, sym, ◌∙◌, drop, get_or}
use Rattle.crc_words.specs.Remainder.{remainder}
use Rattle.crc_words.proofs.TextLemmas.{remainder-more, remainder-all}
use Rattle.crc_words.proofs.WordLemmas.{after_byte}
use Rattle.crc_words.proofs.divide.advance_bytes.Goals as goal

pub loop-byte-preserved : goal.loop-byte-preserved
loop-byte-preserved g c =
    let p = g.row.POLYNOMIAL in
    let state = c.loop-byte.state in
    let bytes = c.args.bytes.now in
    let i = c.loop-byte.byte-index in
    let step = after_byte p c.args.near.now c.requires state (get_or bytes i 0) (c.type_inv.bytes i).fits in
    sym (ap (λ s. remainder p s (drop (i + 1) bytes)) step)
    ∙ remainder-more p state bytes i c.loop-byte-test.true
    ∙ c.loop-byte.invariant

pub returns : goal.returns
returns g c =
    remainder-all g.row.POLYNOMIAL c.loop-byte.state c.args.bytes.now c.loop-byte.byte-index c.loop-byte-test.false
    ∙ c.loop-byte.invariant
