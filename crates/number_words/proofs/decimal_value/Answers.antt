use Rattle.std.proofs.Common.{◌≡◌, ◌+◌, ◌^◌, ◌<◌, ◌≤◌, length, take, get_or, ap, ◌∙◌, subst, arith}
use Rattle.std.proofs.lemmas.List.{take_all}
use Rattle.std.proofs.lemmas.Bool.Decides.{nat_tests}
use Rattle.std.proofs.lemmas.Int.Digits.{digits_value_more, digits_more}
use Rattle.std.specs.Str.Parse.{digits_value, AllDigits}
use Rattle.number_words.proofs.Decimals.{is_number, not_empty, no_leading_zero, lone_zero, no_other_byte, too_large, digit_small}
use Rattle.number_words.proofs.decimal_value.Goals as goal

pub returns-then-is_empty : goal.returns-then-is_empty
returns-then-is_empty c = not_empty c.args.word.now (grind (arith, nat_tests))

pub returns-then-has_leading_zero : goal.returns-then-has_leading_zero
returns-then-has_leading_zero c =
    let zero = c.has_leading_zero.ensures.0 c.if-has_leading_zero.true in no_leading_zero c.args.word.now zero.1 zero.0

pub returns-in_default : goal.returns-in_default
returns-in_default c = no_other_byte c.args.word.now c.loop-byte.byte-index c.loop-byte-test.true c.in_default.ensures.other

pub returns-in_default-with_digit : goal.returns-in_default-with_digit
returns-in_default-with_digit c =
    too_large c.args.word.now (c.loop-byte.byte-index + 1)
    (omega (arith, digits_value_more 10 c.args.word.now c.loop-byte.byte-index c.loop-byte-test.true, c.loop-byte.invariant.value, c.in-Some.ensures.digit.2, c.in_default-with_digit.ensures))

pub loop-byte-preserved : goal.loop-byte-preserved
loop-byte-preserved c =
    let digit = c.in-Some.ensures.digit in
    record {
      digits = digits_more 10 c.args.word.now c.loop-byte.byte-index c.loop-byte-test.true c.loop-byte.invariant.digits (digit_small _ digit.0 digit.1);
      value = omega (arith, digits_value_more 10 c.args.word.now c.loop-byte.byte-index c.loop-byte-test.true, c.loop-byte.invariant.value, digit.2, c.in-Some-with_digit.ensures.1);
      small = omega (arith, c.in-Some-with_digit.ensures.0, c.in-Some-with_digit.ensures.1);
    }

pub returns : goal.returns
returns c =
    let w = c.args.word.now in
    let whole : take c.loop-byte.byte-index w ≡ w = take_all c.loop-byte.byte-index w c.loop-byte-test.false in
    let value : c.loop-byte.value ≡ digits_value 10 w = c.loop-byte.invariant.value ∙ ap (digits_value 10) whole in
    let digits : AllDigits 10 w = subst (AllDigits 10) whole c.loop-byte.invariant.digits in
    let some : 1 ≤ length w = grind (arith, nat_tests) in
    let plain : get_or w 0 0 ≡ 48 → length w ≡ 1 = lone_zero _ (length w) (get_or w 0 0 ≡ 48) c.has_leading_zero.ensures c.if-has_leading_zero.false some in
    let small : digits_value 10 w < 2 ^ 64 = omega (arith, c.loop-byte.invariant.small, value) in
    rw value (is_number w digits some plain small)
