use Rattle.std.proofs.Common.{sym, ◌∙◌, arith}
use Rattle.command_words.proofs.Reading.{place_small, so_far_more}
use Rattle.command_words.proofs.options.read_options.Goals as goal

pub overflow_add-result : goal.overflow_add-result
overflow_add-result c = omega (arith, place_small c.requires c.loop-name.invariant)

pub overflow_add-result-then-not-has : goal.overflow_add-result-then-not-has
overflow_add-result-then-not-has c = omega (arith, place_small c.requires c.loop-name.invariant)

pub overflow_add-place : goal.overflow_add-place
overflow_add-place c = omega (arith, place_small c.requires c.loop-name.invariant)

pub loop-name-preserved : goal.loop-name-preserved
loop-name-preserved c =
    let so = c.loop-name.invariant in
    let left = c.in-Some-option_left.ensures.left so.given so.keeps in
    let named = c.in-Some-option_left.ensures.named in
    so_far_more c.args.block_size c.args.kind c.args.first _ c.loop-name.given c.loop-name.place _ so
    c.in-Some.name.now _ c.in-Some-option_left.option c.in-Some-first_word.word.now _ c.put.new.self
    c.in-Some.ensures.0 left named.0 named.1 c.in-Some-first_word.ensures.0 c.put.ensures (sym c.has.ensures ∙ c.if-not-has.false)
