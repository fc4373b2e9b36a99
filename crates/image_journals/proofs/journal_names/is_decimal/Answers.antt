use Rattle.std.proofs.Common.{◌≡◌, ℕ, length, sym, ◌∙◌, true, false, arith}
use Rattle.std.proofs.lemmas.Bool.{eqb-true}
use Rattle.std.specs.Fmt.{decimal}
use Rattle.image_journals.proofs.Numerals.{decimal_is, is_some, not_empty, not_long, not_padded, refuted}
use Rattle.image_journals.proofs.journal_names.is_decimal.Goals as goal

pub returns-then-is_empty : goal.returns-then-is_empty
returns-then-is_empty c =
    refuted ((n : ℕ) × (c.args.bytes.now ≡ decimal n)) (λ has. not_empty c.args.bytes.now has.0 has.1 (eqb-true (length c.args.bytes.now) 0 (sym c.is_empty.ensures ∙ c.if-is_empty.true)))

pub returns-then-bytes-gt64 : goal.returns-then-bytes-gt64
returns-then-bytes-gt64 c = refuted ((n : ℕ) × (c.args.bytes.now ≡ decimal n)) (λ has. not_long c.args.bytes.now has.0 has.1 (omega (arith, c.if-bytes-gt64.true)))

pub returns-then-is_padded : goal.returns-then-is_padded
returns-then-is_padded c =
    let told = c.is_padded.ensures.0 c.if-is_padded.true in
    refuted ((n : ℕ) × (c.args.bytes.now ≡ decimal n)) (λ has. not_padded c.args.bytes.now has.0 has.1 told.0 told.1 told.2)

pub returns : goal.returns
returns c =
    decimal_is c.args.bytes.now c.are_digits.result c.are_digits.ensures (is_some (length c.args.bytes.now) c.is_empty.result c.is_empty.ensures c.if-is_empty.false) (omega (arith, c.if-bytes-gt64.false))
    (λ more less first. let f : false ≡ true = sym c.if-is_padded.false ∙ c.is_padded.ensures.1 (more, less, first) in cc)
