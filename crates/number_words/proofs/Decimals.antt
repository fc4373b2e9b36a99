-- Numbers as words.
use Rattle.std.proofs.Common.{◌≡◌, ◌≢◌, ◌⊎◌, inl, inr, ℕ, zero, suc, ◌^◌, ◌<◌, ◌≤◌, Bool, true, false, ◌&&◌, if◌then◌else◌, List, length, take, get_or, Some, None, refl, sym, ap, ◌∙◌, subst, arith}
use Rattle.std.specs.Prelude.{◌↔◌, nat_le}
use Rattle.std.specs.Char.{digit_value}
use Rattle.std.specs.Int.{IsInRange}
use Rattle.std.specs.Str.{bytes_eq}
use Rattle.std.specs.Str.Parse.{digits_value, AllDigits}
use Rattle.std.specs.Fmt.{decimal}
use Rattle.std.proofs.lemmas.Bool.{false≢true}
use Rattle.std.proofs.lemmas.Bool.Decides.{nat_tests}
use Rattle.std.proofs.lemmas.Str.Parse.{IsNumeralModel, numerals_by_value, tells_digits, digit_at, digits_value-take-le}
use Rattle.std.proofs.lemmas.Fmt.{digits_decimal, digits_value-decimal, decimal-digits_value, decimal_nonempty, first_decimal, decimal_digit}
use Rattle.std.proofs.lemmas.Slice.Eq.{bytes_eq-Decides}
use Rattle.number_words.specs.Numbers.{number_in}

numerals : IsNumeralModel (AllDigits 10) (digits_value 10)
numerals = numerals_by_value (AllDigits 10) tells_digits

-- ---- what is a number

pub is_number : (w : List ℕ) → AllDigits 10 w → 1 ≤ length w → (get_or w 0 0 ≡ 48 → length w ≡ 1) → digits_value 10 w < 2 ^ 64 → w ≡ decimal (digits_value 10 w)
is_number w digits some plain small = sym (decimal-digits_value numerals w digits some plain small)

-- ---- what is none

pub not_empty : (w : List ℕ) → length w ≡ 0 → (n : ℕ) → n < 2 ^ 64 → w ≢ decimal n
not_empty w none n small is = let some = decimal_nonempty n small in absurd (omega (arith, some, ap length is))

pub no_leading_zero : (w : List ℕ) → get_or w 0 0 ≡ 48 → 1 < length w → (n : ℕ) → n < 2 ^ 64 → w ≢ decimal n
no_leading_zero w zero_first long zero small is = let one = ap length (is ∙ decimal_digit 0 (omega arith)) in absurd (omega (arith, one))
no_leading_zero w zero_first long (suc n) small is =
    let first = first_decimal (suc n) (omega arith) small in
    absurd (omega (arith, first, ap (λ (v : List ℕ). get_or v 0 0) is))

-- a word that begins with a zero and has no leading zero is that zero
pub lone_zero : (b : Bool) (n : ℕ) (Z : Type 0) → (b ≡ true ↔ ((1 < n) × Z)) → b ≡ false → 1 ≤ n → Z → n ≡ 1
lone_zero b zero Z is other some z = absurd (omega arith)
lone_zero b (suc zero) Z is other some z = refl
lone_zero b (suc (suc m)) Z is other some z = absurd (false≢true (sym other ∙ is.1 (omega arith, z)))

pub no_other_byte : (w : List ℕ) (i : ℕ) → i < length w → (IsInRange 48 57 (get_or w i 0) → ⊥) → (n : ℕ) → n < 2 ^ 64 → w ≢ decimal n
no_other_byte w i within other n small is =
    let all : AllDigits 10 w = subst (AllDigits 10) (sym is) (digits_decimal numerals n small) in other (digit_at w i all within)

-- the digits so far are a larger number than any
pub too_large : (w : List ℕ) (i : ℕ) → 2 ^ 64 ≤ digits_value 10 (take i w) → (n : ℕ) → n < 2 ^ 64 → w ≢ decimal n
too_large w i large n small is =
    let front = digits_value-take-le 10 w i (omega arith) in
    let value = ap (digits_value 10) is ∙ digits_value-decimal numerals n small in
    absurd (omega (arith, front, value))

pub digit_small : (b : ℕ) → 48 ≤ b → b ≤ 57 → digit_value b < 10
digit_small b low high = grind (arith, nat_tests)

-- ---- numbers within limits

-- the test of `number_in` at the word's value
module _ (low high : ℕ) (w : List ℕ) (small : high < 2 ^ 64) where
  abbrev value : ℕ
  value = digits_value 10 w

  chosen : (b : Bool) → bytes_eq w (decimal value) ≡ b → (none : (n : ℕ) → n < 2 ^ 64 → w ≢ decimal n) → None ≡ number_in low high w
  chosen false e none = rw e refl
  chosen true e none = by_limit (nat_le value high) refl
    where
      by_limit : (c : Bool) → nat_le value high ≡ c → None ≡ number_in low high w
      by_limit true below =
          let is = (bytes_eq-Decides w (decimal value)).0 e in
          let fits : value ≤ high = grind (arith, nat_tests) in
          absurd (none value (omega arith) is)
      by_limit false above = rw (above, e) (last (nat_le low value))
        where
          last : (d : Bool) → None ≡ (if d && false then Some value else None)
          last true = refl
          last false = refl

  pub number_of_none : ((n : ℕ) → n < 2 ^ 64 → w ≢ decimal n) → None ≡ number_in low high w
  number_of_none none = chosen _ refl none

  pub number_of_some : (n : ℕ) → n < 2 ^ 64 → w ≡ decimal n → (if nat_le low n && nat_le n high then Some n else None) ≡ number_in low high w
  number_of_some n fits is =
      let same : value ≡ n = ap (digits_value 10) is ∙ digits_value-decimal numerals n fits in
      let spelled : bytes_eq w (decimal value) ≡ true = (bytes_eq-Decides w (decimal value)).1 (is ∙ ap decimal (sym same)) in
      rw spelled (ap (λ (m : ℕ). if nat_le low m && nat_le m high then Some m else None) (sym same))

  pub number_within : (n : ℕ) → n < 2 ^ 64 → w ≡ decimal n → low ≤ n → n ≤ high → Some n ≡ number_in low high w
  number_within n fits is above below =
      let tests : (if nat_le low n && nat_le n high then Some n else None) ≡ Some n = grind (arith, nat_tests) in sym tests ∙ number_of_some n fits is

  pub number_outside : (n : ℕ) → n < 2 ^ 64 → w ≡ decimal n → ((low ≤ n) × (high < n)) ⊎ (n < low) → None ≡ number_in low high w
  number_outside n fits is outside =
      let tests : (if nat_le low n && nat_le n high then Some n else None) ≡ None = elim outside [ inl over ↦ grind (arith, nat_tests) | inr under ↦ grind (arith, nat_tests) ] in sym tests ∙ number_of_some n fits is
