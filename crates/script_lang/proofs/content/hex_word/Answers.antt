use Rattle.script_lang.proofs.HexWords.{hex_lower, hex_other}
use Rattle.script_lang.proofs.content.hex_word.Goals as goal

pub returns-then-not-are_lower_case_digits : goal.returns-then-not-are_lower_case_digits
returns-then-not-are_lower_case_digits c = hex_other c.args.word.now c.if-not-are_lower_case_digits.ensures

pub returns-in-Ok : goal.returns-in-Ok
returns-in-Ok c = hex_lower c.args.word.now _ c.if-not-are_lower_case_digits.ensures c.in-Ok.ensures.ok
