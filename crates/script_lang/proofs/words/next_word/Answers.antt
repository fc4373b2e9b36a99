use Rattle.std.proofs.Common.{arith}
use Rattle.script_lang.proofs.TextParts.{first_part, last_part}
use Rattle.script_lang.proofs.words.next_word.Goals as goal

pub returns-then-end-line : goal.returns-then-end-line
returns-then-end-line c = first_part 32 c.args.line.now c.length_before-end.result c.length_before-end.ensures.length c.if-end-line.true

pub returns-else-end-line : goal.returns-else-end-line
returns-else-end-line c = last_part 32 c.args.line.now (omega (arith, c.length_before-end.ensures.length))
