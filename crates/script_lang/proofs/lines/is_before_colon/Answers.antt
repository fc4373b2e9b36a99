use Rattle.std.proofs.Common.{◌≡◌, ◌-◌, ◌≤◌, ◌==◌, true, false, length, get_or, ◌∙◌, arith, eq-eqb}
use Rattle.std.proofs.lemmas.Bool.Decides.{nat_tests}
use Rattle.script_lang.proofs.LineLaws.{before_colon, empty_before_colon}
use Rattle.script_lang.proofs.lines.is_before_colon.Goals as goal

pub returns-then-word-end-eq58 : goal.returns-then-word-end-eq58
returns-then-word-end-eq58 c =
    let w = c.args.word.now in
    let some : 1 ≤ length w = grind (arith, nat_tests) in
    let colon : (get_or w (length w - 1) 0 == 58) ≡ true = eq-eqb _ _ c.if-word-end-eq58.true in
    c.is_word.ensures.test ∙ (rw colon at (before_colon w c.args.name.now some))

pub returns-else-word-end-eq58 : goal.returns-else-word-end-eq58
returns-else-word-end-eq58 c =
    let w = c.args.word.now in
    let some : 1 ≤ length w = grind (arith, nat_tests) in
    let other : (get_or w (length w - 1) 0 == 58) ≡ false = grind (arith, nat_tests) in
    other ∙ (rw other at (before_colon w c.args.name.now some))

pub returns-then-is_empty : goal.returns-then-is_empty
returns-then-is_empty c = let none : length c.args.word.now ≡ 0 = grind (arith, nat_tests) in empty_before_colon c.args.word.now c.args.name.now none
