use Rattle.std.proofs.Common.{arith, ◌≡◌, ◌+◌, ◌-◌, length, ap, ◌∙◌}
use Rattle.script_lang.specs.Words.{words_behind, column_of}
use Rattle.script_lang.proofs.Columns.{column_of-step, column_of-le}
use Rattle.script_lang.proofs.parser.column.Goals as goal

pub overflow_cast-result : goal.overflow_cast-result
overflow_cast-result c = omega (arith, c.loop-taken.invariant, column_of-le c.args.word c.args.line.now)

pub overflow_add-before-in-loop-taken-2 : goal.overflow_add-before-in-loop-taken-2
overflow_add-before-in-loop-taken-2 c =
    let k = c.args.word - c.loop-taken._taken in
    let next : column_of k (words_behind c.loop-taken.words.now) ≡ length c.in-Some.next.now + 1 + column_of (k - 1) (words_behind c.in-Some.behind.now) = ap (column_of k) c.in-Some.ensures ∙ column_of-step k c.in-Some.next.now (words_behind c.in-Some.behind.now) (omega arith) in
    omega (arith, c.loop-taken.invariant, column_of-le c.args.word c.args.line.now, next)

pub overflow_cast-result-in-None : goal.overflow_cast-result-in-None
overflow_cast-result-in-None c = omega (arith, c.loop-taken.invariant, column_of-le c.args.word c.args.line.now)

pub overflow_cast-result-in-Some-word_behind : goal.overflow_cast-result-in-Some-word_behind
overflow_cast-result-in-Some-word_behind c = omega (arith, c.loop-taken.invariant, column_of-le c.args.word c.args.line.now)

pub overflow_add-result : goal.overflow_add-result
overflow_add-result c = omega (arith, c.loop-taken.invariant, column_of-le c.args.word c.args.line.now)
