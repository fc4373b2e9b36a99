use Rattle.script_lang.proofs.TextParts.{part_and_rest}
use Rattle.script_lang.proofs.line_words.first_part.Goals as goal

pub returns : goal.returns
returns c = part_and_rest c.args.separator c.args.text.now c.length_before-end.result c.length_before-end.ensures.length c.length_before-end.ensures.within
