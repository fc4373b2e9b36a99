-- Words of pairs of digits: a word is what its bytes are written as exactly where its digits are in lower case.
use Rattle.std.proofs.Common.{◌≡◌, ℕ, ◌+◌, ◌*◌, ◌/◌, ◌%◌, ◌<◌, ◌≤◌, ◌==◌, Bool, true, false, ◌&&◌, not, if◌then◌else◌, List, [], ◌∷◌, length, Option, Some, None, Result, Ok, Err, refl, sym, ap, ◌∙◌, inl, inr, arith}
use Rattle.std.specs.Prelude.{nat_lt, nat_le, slice_index, ⊤}
use Rattle.std.specs.List.{list_all}
use Rattle.std.specs.Str.{bytes_eq}
use Rattle.std.proofs.lemmas.Bool.{agree_below_at, and_parts, cases_lt}
use Rattle.std.proofs.lemmas.Bool.Decides.{nat_tests}
use Rattle.std.proofs.lemmas.Slice.Eq.{bytes_eq-Decides}
use Rattle.hex.proofs.HexLemmas.{length-encode_with}
use Rattle.hex.specs.Hex.{lower_digits, encode_with, encode_lower, hex_digit_value, digit_or_error, decode_pairs, decode_of, ◌>>=◌}
use Rattle.hex.specs.declared.error.FromHexError.{FromHexError}
use Rattle.hex.specs.declared.error.FromHexError.TheVariants.{OddLength}
use Rattle.script_lang.specs.Words.{is_lower_digit, hex_in, bytes_of, filled, within_transfer, transfer_limit}

-- ---- one digit

abbrev same : Bool → Bool → Bool
same true b = b
same false b = not b

equal : (a b : Bool) → same a b ≡ true → a ≡ b
equal true true is = refl
equal false false is = refl
equal true false is = cc
equal false true is = cc

abbrev same_case : ℕ → Option ℕ → Bool
same_case h None = true
same_case h (Some v) = same (h == slice_index lower_digits v) (is_lower_digit h) && nat_lt v 16

abbrev agrees : ℕ → Bool
agrees h = same_case h (hex_digit_value h)

past_digits : (h : ℕ) → 128 ≤ h → hex_digit_value h ≡ None
past_digits h high = grind (arith, nat_tests)

all_agree : (h : ℕ) → agrees h ≡ true
all_agree h = elim (cases_lt h 128) [
  | inl low ↦ agree_below_at agrees (λ _. true) 128 h refl low
  | inr high ↦ ap (same_case h) (past_digits h high)
]

-- the digit of this value in lower case is the digit itself if that is in lower case
digit : (h v : ℕ) → hex_digit_value h ≡ Some v → ((h == slice_index lower_digits v) ≡ is_lower_digit h) × (v < 16)
digit h v is =
    let parts = and_parts (same (h == slice_index lower_digits v) (is_lower_digit h)) (nat_lt v 16) (ap (same_case h) (sym is) ∙ all_agree h) in
    let small : nat_lt v 16 ≡ true = parts.1 in (equal _ _ parts.0, grind (arith, nat_tests))

-- ---- all digits

abbrev Agree : List ℕ → List ℕ → Type 0
Agree w bytes = bytes_eq w (encode_lower bytes) ≡ list_all is_lower_digit w

pair : (h l hv lv : ℕ) (rest bytes : List ℕ) → hex_digit_value h ≡ Some hv → hex_digit_value l ≡ Some lv → Agree rest bytes → Agree (h ∷ l ∷ rest) ((hv * 16 + lv) ∷ bytes)
unfolding encode_with
pair h l hv lv rest bytes high low more =
    let first = digit h hv high in
    let second = digit l lv low in
    let top : (hv * 16 + lv) / 16 ≡ hv = omega (arith, second.1) in
    let bottom : (hv * 16 + lv) % 16 ≡ lv = omega (arith, second.1) in
    rw (top, bottom, first.0, second.0, more) refl

agree : (i : ℕ) (w bytes : List ℕ) → decode_pairs i w ≡ Ok bytes → Agree w bytes
unfolding decode_pairs encode_with
agree i [] bytes is = let none : bytes ≡ [] = cc in rw none refl
agree i (d ∷ []) bytes is = cc
agree i (h ∷ l ∷ rest) bytes is = by_parts (agree (i + 2) rest) (hex_digit_value h) (hex_digit_value l) (decode_pairs (i + 2) rest) refl refl refl is
  where
    by_parts : ((bs : List ℕ) → decode_pairs (i + 2) rest ≡ Ok bs → Agree rest bs) → (high low : Option ℕ) (r : Result (List ℕ) FromHexError) → hex_digit_value h ≡ high → hex_digit_value l ≡ low → decode_pairs (i + 2) rest ≡ r
        → ((digit_or_error h i high >>= (λ hv. digit_or_error l (i + 1) low >>= (λ lv. Ok (hv * 16 + lv)))) >>= (λ byte. r >>= (λ bs. Ok (byte ∷ bs)))) ≡ Ok bytes → Agree (h ∷ l ∷ rest) bytes
    by_parts more None low r h_is l_is r_is all = cc
    by_parts more (Some hv) None r h_is l_is r_is all = cc
    by_parts more (Some hv) (Some lv) (Err e) h_is l_is r_is all = cc
    by_parts more (Some hv) (Some lv) (Ok bs) h_is l_is r_is all =
        let is_all : bytes ≡ (hv * 16 + lv) ∷ bs = cc in rw is_all (pair h l hv lv rest bs h_is l_is (more bs r_is))

-- ---- words

decoded : (w bytes : List ℕ) → decode_of w ≡ Ok bytes → Agree w bytes
decoded w bytes is = by_length (length w % 2 == 1) refl is
  where
    by_length : (odd : Bool) → (length w % 2 == 1) ≡ odd → (if odd then Err OddLength else decode_pairs 0 w) ≡ Ok bytes → Agree w bytes
    by_length true odd e = cc
    by_length false odd e = agree 0 w bytes e

pub hex_lower : (w bytes : List ℕ) → true ≡ list_all is_lower_digit w → decode_of w ≡ Ok bytes → Some bytes ≡ hex_in w
hex_lower w bytes lower is =
    let whole : bytes_eq w (encode_lower bytes) ≡ true = decoded w bytes is ∙ sym lower in
    let at : bytes_of {E = FromHexError} w (decode_of w) ≡ bytes_of {E = FromHexError} w (Ok bytes) = ap (bytes_of {E = FromHexError} w) is in
    let value : bytes_of {E = FromHexError} w (Ok bytes) ≡ Some bytes = rw whole refl in sym (at ∙ value)

pub hex_other : (w : List ℕ) → false ≡ list_all is_lower_digit w → None ≡ hex_in w
hex_other w other = by_case (decode_of w) refl
  where
    by_case : (r : Result (List ℕ) FromHexError) → decode_of w ≡ r → None ≡ bytes_of w r
    by_case (Err e) is = refl
    by_case (Ok bytes) is = let differs : bytes_eq w (encode_lower bytes) ≡ false = decoded w bytes is ∙ sym other in rw differs refl

-- ---- how long a word is

abbrev TwoDigits : List ℕ → Option (List ℕ) → Type 0
TwoDigits w None = ⊤
TwoDigits w (Some bytes) = length w ≡ 2 * length bytes

two_digits : (w : List ℕ) → TwoDigits w (hex_in w)
two_digits w = by_case (decode_of w)
  where
    by_test : (bytes : List ℕ) (same : Bool) → bytes_eq w (encode_lower bytes) ≡ same → TwoDigits w (if same then Some bytes else None)
    by_test bytes true is = ap length ((bytes_eq-Decides w (encode_lower bytes)).0 is) ∙ length-encode_with lower_digits bytes
    by_test bytes false is = tt

    by_case : (r : Result (List ℕ) FromHexError) → TwoDigits w (bytes_of w r)
    by_case (Err e) = tt
    by_case (Ok bytes) = by_test bytes (bytes_eq w (encode_lower bytes)) refl

pub too_long : (w : List ℕ) → 32768 < length w → None ≡ within_transfer (hex_in w)
too_long w long = by_value (hex_in w) (two_digits w)
  where
    by_value : (o : Option (List ℕ)) → TwoDigits w o → None ≡ within_transfer o
    by_value None two = refl
    by_value (Some bytes) two = let past : nat_le (length bytes) transfer_limit ≡ false = (let more : transfer_limit < length bytes = omega (arith, two) in grind (arith, nat_tests)) in rw past (neither (nat_le 1 (length bytes)))
      where
        neither : (b : Bool) → None ≡ (if b && false then Some bytes else None)
        neither true = refl
        neither false = refl

pub no_byte : (w : List ℕ) (count : Option ℕ) → (length w ≡ 2 → ⊥) → None ≡ filled (hex_in w) count
no_byte w count other = by_value (hex_in w) count (two_digits w)
  where
    by_value : (o : Option (List ℕ)) (n : Option ℕ) → TwoDigits w o → None ≡ filled o n
    by_value None n two = refl
    by_value (Some []) n two = refl
    by_value (Some (b ∷ [])) n two = absurd (other two)
    by_value (Some (b ∷ c ∷ cs)) n two = refl
