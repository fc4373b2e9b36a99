-- Each word goes from what is left into the state.
use Rattle.std.proofs.Common.{ap, sym, ◌∙◌, drop}
use Rattle.crc_words.specs.Remainder.{remainder}
use Rattle.crc_words.proofs.LaneLemmas.{remainder-word, take-rest}
use Rattle.crc_words.proofs.divide.advance_words.Goals as goal

pub loop-rest-preserved : goal.loop-rest-preserved
loop-rest-preserved g c =
    let p = g.row.POLYNOMIAL in
    let rest = c.loop-rest.rest.now in
    ap (remainder p c.after_word-state.result) (take-rest 8 rest)
    ∙ ap (λ s. remainder p s (drop 8 rest)) c.after_word-state.ensures
    ∙ sym (remainder-word p c.loop-rest.state rest c.loop-rest-test.true)
    ∙ c.loop-rest.invariant
