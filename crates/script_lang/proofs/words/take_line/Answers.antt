use Rattle.std.proofs.Common.{◌<◌, length, arith}
use Rattle.std.proofs.lemmas.Bool.Decides.{nat_tests}
use Rattle.script_lang.proofs.TextParts.{first_line, line_place}
use Rattle.script_lang.proofs.words.take_line.Goals as goal

pub returns-clause-line : goal.returns-clause-line
returns-clause-line c =
    let some : 0 < length c.args.text.now = grind (arith, nat_tests) in
    first_line c.args.text.now c.length_before-end.result c.min-next.result some c.length_before-end.ensures.length c.min-next.ensures

pub returns-clause-place : goal.returns-clause-place
returns-clause-place c =
    let some : 0 < length c.args.text.now = grind (arith, nat_tests) in
    line_place c.args.text.now c.length_before-end.result c.min-next.result some c.length_before-end.ensures.within c.min-next.ensures
