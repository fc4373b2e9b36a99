use Rattle.std.proofs.Common.{arith}
use Rattle.number_words.proofs.Decimals.{number_within, number_outside}
use Rattle.number_words.proofs.number_word.Goals as goal

pub returns-then-value-high : goal.returns-then-value-high
returns-then-value-high c =
    number_within c.args.low c.args.high c.args.word.now (omega arith) c.in_ok-value.value (omega arith) c.in_ok-value.ensures c.if-low-value.true c.if-value-high.true

pub returns-else-low-value : goal.returns-else-low-value
returns-else-low-value c =
    number_outside c.args.low c.args.high c.args.word.now (omega arith) c.in_ok-value.value (omega arith) c.in_ok-value.ensures c.else-low-value.either
