-- Each step takes one from the steps that are left.
use Rattle.std.proofs.Common.{◌≡◌, ◌+◌, ◌-◌, suc, ap, sym, ◌∙◌, arith}
use Rattle.crc_words.specs.Remainder.{after_bits}
use Rattle.crc_words.proofs.plain.after_eight_bits.Goals as goal

pub loop-preserved : goal.loop-preserved
unfolding after_bits
loop-preserved c =
    let left : 8 - c.loop.counter ≡ suc (8 - (c.loop.counter + 1)) = omega arith in
    ap (after_bits c.args.polynomial (8 - (c.loop.counter + 1))) c.after_bit-state.ensures
    ∙ sym (ap (λ n. after_bits c.args.polynomial n c.loop.state) left)
    ∙ c.loop.invariant

pub returns : goal.returns
unfolding after_bits
returns c =
    let none : 8 - c.loop.counter ≡ 0 = omega arith in
    sym (ap (λ n. after_bits c.args.polynomial n c.loop.state) none) ∙ c.loop.invariant
