-- The names of journals.
use Rattle.std.proofs.Common.{◌≡◌, ℕ, ◌+◌, ◌<◌, [], ◌∷◌, ◌++◌, get_or, sym, ap, ◌∙◌, arith}
use Rattle.std.specs.Prelude.{codes}
use Rattle.std.proofs.lemmas.Fmt.{decimal_digit}
use Rattle.image_model.specs.Journals.{journal_name}

-- a name of one digit
pub digit_name : (j : ℕ) → j < 10 → journal_name j ≡ codes "journal" ++ (48 + j) ∷ []
digit_name j low = ap (λ digits. codes "journal" ++ digits) (decimal_digit j low)

pub one_number : (i j : ℕ) → i < 10 → j < 10 → journal_name i ≡ journal_name j → i ≡ j
one_number i j low low' same =
    let e : codes "journal" ++ (48 + i) ∷ [] ≡ codes "journal" ++ (48 + j) ∷ [] = sym (digit_name i low) ∙ same ∙ digit_name j low' in
    omega (arith, ap (λ name. get_or name 7 0) e)
