-- Which bytes a printed word has.
use Rattle.std.proofs.Common.{◌≡◌, ℕ, ◌+◌, ◌/◌, ◌%◌, ◌^◌, ◌<◌, ◌==◌, Bool, true, false, ◌&&◌, not, List, [], ◌∷◌, ◌++◌, length, refl, ◌∙◌, arith}
use Rattle.std.specs.Prelude.{nat_lt, nat_le, slice_index}
use Rattle.std.specs.List.{AllByRecursion, list_all}
use Rattle.std.specs.Fmt.{decimal}
use Rattle.std.proofs.lemmas.Bool.{and_parts, agree_below_at}
use Rattle.std.proofs.lemmas.Bool.Decides.{nat_tests}
use Rattle.std.proofs.lemmas.Fmt.{decimal_by_steps}
use Rattle.std.proofs.lemmas.List.Folds.{list_all-append}
use Rattle.hex.specs.Hex.{lower_digits, encode_lower, encode_with}
use Rattle.file_tree.specs.PathFaults.{IsBytes}
use Rattle.file_tree.specs.PathText.{is_escaped, byte_text, name_text, names_text, path_text}
use Rattle.script_lang.specs.Words.{is_letter_or_digit, is_client_name, is_lower, begins_line}

-- ---- all bytes pass a test

pub both : (a b : Bool) → a ≡ true → b ≡ true → (a && b) ≡ true
both true b one two = two
both false b one two = one

pub all-append : (p : ℕ → Bool) (v w : List ℕ) → list_all p v ≡ true → list_all p w ≡ true → list_all p (v ++ w) ≡ true
all-append p v w one two = list_all-append p v w ∙ both _ _ one two

pub all-weaker : (p q : ℕ → Bool) → ((b : ℕ) → p b ≡ true → q b ≡ true) → (w : List ℕ) → list_all p w ≡ true → list_all q w ≡ true
all-weaker p q weaker [] all = refl
all-weaker p q weaker (b ∷ bs) all = let parts = and_parts (p b) (list_all p bs) all in both _ _ (weaker b parts.0) (all-weaker p q weaker bs parts.1)

-- a byte of a word, and a byte of a line
abbrev pub is_ink : ℕ → Bool
is_ink b = nat_lt 32 b

abbrev pub in_line : ℕ → Bool
in_line b = nat_lt 31 b

abbrev pub Ink : List ℕ → Type 0
Ink w = list_all is_ink w ≡ true

abbrev pub InLine : List ℕ → Type 0
InLine l = list_all in_line l ≡ true

pub ink-line : (w : List ℕ) → Ink w → InLine w
ink-line w ink = all-weaker is_ink in_line (λ b is. grind (arith, nat_tests)) w ink

pub line-word : (l w : List ℕ) → InLine l → Ink w → InLine (l ++ 32 ∷ w)
line-word l w one two = all-append in_line l (32 ∷ w) one (ink-line w two)

-- ---- numbers

digit_ink : (n : ℕ) → is_ink (48 + n) ≡ true
digit_ink n = let high : 32 < 48 + n = omega arith in grind (arith, nat_tests)

all-decimal : (p : ℕ → Bool) → ((d : ℕ) → d < 10 → p (48 + d) ≡ true) → (n : ℕ) → n < 2 ^ 64 → list_all p (decimal n) ≡ true
all-decimal p digit n small =
    decimal_by_steps (λ m ds. list_all p ds ≡ true) (λ m below. both _ _ (digit m below) refl) (λ m ds above all. all-append p ds ((48 + m % 10) ∷ []) all (both _ _ (digit (m % 10) (omega arith)) refl)) n small

pub ink-decimal : (n : ℕ) → n < 2 ^ 64 → Ink (decimal n)
ink-decimal n small = all-decimal is_ink (λ d below. digit_ink d) n small

digit_no_colon : (d : ℕ) → d < 10 → not (48 + d == 58) ≡ true
digit_no_colon d below = let other : (48 + d == 58) ≡ false = grind (arith, nat_tests) in rw other refl

pub no_colon-decimal : (n : ℕ) → n < 2 ^ 64 → list_all (λ b. not (b == 58)) (decimal n) ≡ true
no_colon-decimal n small = all-decimal (λ b. not (b == 58)) digit_no_colon n small

-- ---- digits of bytes

pub all-lower : (p : ℕ → Bool) → ((d : ℕ) → d < 16 → p (slice_index lower_digits d) ≡ true) → (bytes : List ℕ) → IsBytes bytes → list_all p (encode_lower bytes) ≡ true
unfolding encode_with
all-lower p digits [] are = refl
all-lower p digits (b ∷ bs) are =
    let byte : b < 256 = are.0 in
    let rest : list_all p (encode_lower bs) ≡ true = all-lower p digits bs are.1 in
    both _ _ (digits (b / 16) (omega (arith, byte))) (both _ _ (digits (b % 16) (omega arith)) rest)

pub ink-lower : (bytes : List ℕ) → IsBytes bytes → Ink (encode_lower bytes)
ink-lower bytes are = all-lower is_ink (λ d below. agree_below_at (λ d. is_ink (slice_index lower_digits d)) (λ _. true) 16 d refl below) bytes are

pub no_colon-lower : (bytes : List ℕ) → IsBytes bytes → list_all (λ b. not (b == 58)) (encode_lower bytes) ≡ true
no_colon-lower bytes are = all-lower (λ b. not (b == 58)) (λ d below. agree_below_at (λ d. not (slice_index lower_digits d == 58)) (λ _. true) 16 d refl below) bytes are

-- ---- paths

ink-byte : (b : ℕ) → b < 256 → Ink (byte_text b)
ink-byte b byte = by_test (is_escaped b) refl
  where
    by_test : (t : Bool) → is_escaped b ≡ t → Ink (byte_text b)
    by_test true e = rw e (ink-lower (b ∷ []) (byte, tt))
    by_test false e = let plain : is_ink b ≡ true = grind (arith, nat_tests) in rw (e, plain) refl

ink-name : (name : List ℕ) → IsBytes name → Ink (name_text name)
ink-name [] are = refl
ink-name (b ∷ bs) are = all-append is_ink (byte_text b) (name_text bs) (ink-byte b are.0) (ink-name bs are.1)

ink-names : (path : List (List ℕ)) → AllByRecursion IsBytes path → Ink (names_text path)
ink-names [] are = refl
ink-names (name ∷ path) are = all-append is_ink (name_text name) (names_text path) (ink-name name are.0) (ink-names path are.1)

pub ink-path : (path : List (List ℕ)) → AllByRecursion IsBytes path → Ink (path_text path)
ink-path [] are = refl
ink-path (name ∷ path) are = ink-names (name ∷ path) are

-- ---- names of clients

letter_ink : (b : ℕ) → is_letter_or_digit b ≡ true → is_ink b ≡ true
letter_ink b is = grind (arith, nat_tests)

pub ink-client : (name : List ℕ) → is_client_name name ≡ true → Ink name
ink-client name is =
    let four = and_parts (nat_le 1 (length name) && nat_le (length name) 16 && is_lower (slice_index name 0) && list_all is_letter_or_digit name) (not (begins_line name)) is in
    let three = and_parts (nat_le 1 (length name) && nat_le (length name) 16 && is_lower (slice_index name 0)) (list_all is_letter_or_digit name) four.0 in
    all-weaker is_letter_or_digit is_ink letter_ink name three.1
