-- What is printed of a number in decimal.
use Rattle.std.proofs.Common.{◌≡◌, ◌≢◌, ◌⊎◌, inl, inr, ◌+◌, ◌-◌, ◌*◌, ◌/◌, ◌%◌, ◌<◌, ◌≤◌, ℕ, zero, suc, Bool, true, false, List, [], ◌∷◌, ◌++◌, length, get_or, refl, sym, ap, subst, ◌∙◌, arith, append-nil}
use Rattle.std.specs.Prelude.{◌==◌, IsTrue, ◌&&◌, nat_le, nat_lt}
use Rattle.std.specs.Fmt.{decimal, digit_glyph, digits, digits_onto}
use Rattle.std.specs.List.{list_all}
use Rattle.std.proofs.lemmas.Bool.{cases_eq, cond-true, cond-false, eq-eqb, ne_eqb}
use Rattle.std.proofs.lemmas.Bool.Decides.{nat_tests}
use Rattle.std.proofs.lemmas.List.{append_assoc, length-append}

-- a decimal digit, as a test
abbrev pub is_digit : ℕ → Bool
is_digit b = nat_le 48 b && nat_le b 57

abbrev pub are_digits : List ℕ → Bool
are_digits w = list_all is_digit w

-- the digits of a number with so many at most: none but the number itself begins with a zero, unless they are so many
pub record IsNumeral (k n : ℕ) (w : List ℕ) : Type 0 where
  pub digits : are_digits w ≡ true
  pub short : length w ≤ k
  pub some : 1 ≤ k → 1 ≤ length w
  pub leading : get_or w 0 0 ≡ 48 → 1 ≤ length w → ((n ≡ 0) × (length w ≡ 1)) ⊎ (length w ≡ k)

all_more : (p : ℕ → Bool) (xs : List ℕ) (x : ℕ) → list_all p xs ≡ true → p x ≡ true → list_all p (xs ++ x ∷ []) ≡ true
all_more p [] x all one = ap (λ b. b && true) one
all_more p (y ∷ ys) x all one = both (p y) (list_all p ys) (list_all p (ys ++ x ∷ [])) all (λ rest. all_more p ys x rest one)
  where
    both : (a b c : Bool) → (a && b) ≡ true → (b ≡ true → c ≡ true) → (a && c) ≡ true
    both true b c e more = more e
    both false b c e more = e

first_more : (xs : List ℕ) (x : ℕ) → 1 ≤ length xs → get_or (xs ++ x ∷ []) 0 0 ≡ get_or xs 0 0
first_more [] x some = absurd (omega (arith, some))
first_more (y ∷ ys) x some = refl

glyph_is : (d : ℕ) → d < 10 → digit_glyph false d ≡ 48 + d
glyph_is d low = cond-true _ _ _ (let t : nat_lt d 10 ≡ true = grind (arith, nat_tests, low) in t)

glyph_digit : (n : ℕ) → is_digit (digit_glyph false (n % 10)) ≡ true
glyph_digit n =
    let low : n % 10 < 10 = omega arith in
    subst (λ b. is_digit b ≡ true) (sym (glyph_is (n % 10) low)) (grind (arith, nat_tests, low))

-- what is printed of a number before what follows
pub record Printed (k n : ℕ) (acc : List ℕ) : Type 0 where
  pub word : List ℕ
  pub is : digits_onto k 10 false n acc ≡ word ++ acc
  pub numeral : IsNumeral k n word

pub printed : (k n : ℕ) (acc : List ℕ) → Printed k n acc
printed zero n acc = record { word = []; is = refl; numeral = record { digits = refl; short = omega arith; some = λ e. absurd (omega (arith, e)); leading = λ e some. inr refl } }
printed (suc k) n acc = elim (cases_eq (n / 10) 0) [
  | inl last ↦ record {
    word = digit_glyph false (n % 10) ∷ [];
    is = cond-true _ _ _ (eq-eqb (n / 10) 0 last);
    numeral = record {
      digits = ap (λ b. b && true) (glyph_digit n);
      short = omega arith;
      some = λ e. omega arith;
      leading = λ e some. inl (
        (let low : n % 10 < 10 = omega arith in let g = glyph_is (n % 10) low in let z : digit_glyph false (n % 10) ≡ 48 = e in omega (arith, g, z, last)),
        refl,
      );
    };
  }
  | inr more ↦
      let rest = printed k (n / 10) (digit_glyph false (n % 10) ∷ acc) in
      let long : length (rest.word ++ digit_glyph false (n % 10) ∷ []) ≡ length rest.word + 1 = length-append rest.word (digit_glyph false (n % 10) ∷ []) in
      record {
        word = rest.word ++ digit_glyph false (n % 10) ∷ [];
        is = cond-false _ _ _ (ne_eqb (n / 10) 0 more) ∙ rest.is ∙ sym (append_assoc rest.word (digit_glyph false (n % 10) ∷ []) acc);
        numeral = record {
          digits = all_more is_digit rest.word (digit_glyph false (n % 10)) rest.numeral.digits (glyph_digit n);
          short = let low = rest.numeral.short in omega (arith, low, long);
          some = λ e. omega (arith, long);
          leading = λ e some. inr (long ∙ full rest.word rest.numeral more e);
        };
      }
]
  where
    full : (w : List ℕ) → IsNumeral k (n / 10) w → n / 10 ≢ 0 → get_or (w ++ digit_glyph false (n % 10) ∷ []) 0 0 ≡ 48 → length w + 1 ≡ suc k
    full w is more e = elim (cases_eq k 0) [
      | inl none ↦ (let low = is.short in omega (arith, low, none))
      | inr some ↦
          let here : 1 ≤ length w = is.some (omega (arith, some)) in
          elim (is.leading (sym (first_more w (digit_glyph false (n % 10)) here) ∙ e) here) [
            | inl zero_is ↦ absurd (more zero_is.0)
            | inr same ↦ (let so : length w ≡ k = same in omega (arith, so))
          ]
    ]

-- ---- and each numeral is that of a number

record Parted (w : List ℕ) : Type 0 where
  front : List ℕ
  last : ℕ
  is : w ≡ front ++ last ∷ []

part : (w : List ℕ) → 1 ≤ length w → Parted w
part [] some = absurd (omega (arith, some))
part (x ∷ []) some = record { front = []; last = x; is = refl }
part (x ∷ y ∷ ys) some = let rest = part (y ∷ ys) (omega arith) in record { front = x ∷ rest.front; last = rest.last; is = ap (λ zs. x ∷ zs) rest.is }

empty : (w : List ℕ) → length w ≡ 0 → w ≡ []
empty [] e = refl
empty (x ∷ xs) e = absurd (omega (arith, e))

parts_pass : (p : ℕ → Bool) (xs : List ℕ) (x : ℕ) → list_all p (xs ++ x ∷ []) ≡ true → (list_all p xs ≡ true) × (p x ≡ true)
parts_pass p [] x all = (refl, one (p x) all)
  where
    one : (b : Bool) → (b && true) ≡ true → b ≡ true
    one true e = refl
    one false e = e
parts_pass p (y ∷ ys) x all = let rest = parts_pass p ys x (behind (p y) (list_all p (ys ++ x ∷ [])) all) in (both (p y) (list_all p ys) (ahead (p y) (list_all p (ys ++ x ∷ [])) all) rest.0, rest.1)
  where
    behind : (a b : Bool) → (a && b) ≡ true → b ≡ true
    behind true b e = e
    behind false b e = absurd (let no : false ≡ true = e in cc)

    ahead : (a b : Bool) → (a && b) ≡ true → a ≡ true
    ahead true b e = refl
    ahead false b e = e

    both : (a b : Bool) → a ≡ true → b ≡ true → (a && b) ≡ true
    both a b e f = ap (λ c. c && b) e ∙ f

digit_range : (d : ℕ) → is_digit d ≡ true → (48 ≤ d) × (d ≤ 57)
digit_range d is = (grind (arith, nat_tests, is), grind (arith, nat_tests, is))

-- a number of which this word is printed before what follows
abbrev HasNumber : ℕ → List ℕ → List ℕ → Type 0
HasNumber k w acc = (n : ℕ) × (n ≢ 0) × (digits_onto k 10 false n acc ≡ w ++ acc)

longer : (k d : ℕ) (u acc : List ℕ) → is_digit d ≡ true → HasNumber k u (d ∷ acc) → HasNumber (suc k) (u ++ d ∷ []) acc
longer k d u acc digit has =
    let range = digit_range d digit in
    let low : 48 ≤ d = range.0 in
    let high : d ≤ 57 = range.1 in
    let m = has.0 in
    let n = m * 10 + (d - 48) in
    let tens : n / 10 ≡ m = omega (arith, low, high) in
    let ones : n % 10 ≡ d - 48 = omega (arith, low, high) in
    let glyph : digit_glyph false (n % 10) ≡ d = ap (digit_glyph false) ones ∙ glyph_is (d - 48) (omega (arith, low, high)) ∙ (let whole : 48 + (d - 48) ≡ d = omega (arith, low) in whole) in (
      n,
      λ e. has.1 (let none : n ≡ 0 = e in omega (arith, none)),
      cond-false _ _ _ (ne_eqb (n / 10) 0 (λ e. has.1 (sym tens ∙ e)))
          ∙ ap (λ t. digits_onto k 10 false t (digit_glyph false (n % 10) ∷ acc)) tens
          ∙ ap (λ g. digits_onto k 10 false m (g ∷ acc)) glyph
          ∙ has.2
          ∙ sym (append_assoc u (d ∷ []) acc),
    )

alone : (k d : ℕ) (acc : List ℕ) → is_digit d ≡ true → d ≢ 48 → HasNumber (suc k) (d ∷ []) acc
alone k d acc digit other =
    let range = digit_range d digit in
    let low : 48 ≤ d = range.0 in
    let high : d ≤ 57 = range.1 in
    let n = d - 48 in
    let tens : n / 10 ≡ 0 = omega (arith, low, high) in
    let ones : n % 10 ≡ d - 48 = omega (arith, low, high) in
    let glyph : digit_glyph false (n % 10) ≡ d = ap (digit_glyph false) ones ∙ glyph_is (d - 48) (omega (arith, low, high)) ∙ (let whole : 48 + (d - 48) ≡ d = omega (arith, low) in whole) in (
      n,
      λ e. other (let none : n ≡ 0 = e in omega (arith, none, low)),
      cond-true _ _ _ (eq-eqb (n / 10) 0 tens) ∙ ap (λ g. g ∷ acc) glyph,
    )

number_of : (k : ℕ) (w acc : List ℕ) → are_digits w ≡ true → length w ≤ k → ((get_or w 0 0 ≢ 48) × (1 ≤ length w)) ⊎ (length w ≡ k) → HasNumber k w acc
number_of zero w acc digits short kind = let none = empty w (omega (arith, short)) in (1, λ e. absurd (omega (arith, e)), sym (ap (λ v. v ++ acc) none))
number_of (suc k) w acc digits short kind =
    let some : 1 ≤ length w = elim kind [ inl lead ↦ lead.1 | inr full ↦ (let all : length w ≡ suc k = full in omega (arith, all)) ] in
    let at = part w some in
    let passes = parts_pass is_digit at.front at.last (subst (λ v. are_digits v ≡ true) at.is digits) in
    let long : length w ≡ length at.front + 1 = ap length at.is ∙ length-append at.front (at.last ∷ []) in
    let less : length at.front ≤ k = omega (arith, short, long) in
    subst (λ v. HasNumber (suc k) v acc) (sym at.is) (elim (cases_eq (length at.front) 0) [
      | inr more ↦
          let front : 1 ≤ length at.front = omega (arith, more) in
          longer k at.last at.front acc passes.1 (number_of k at.front (at.last ∷ acc) passes.0 less (elim kind [
            | inl lead ↦ inl (λ e. lead.0 (ap (λ v. get_or v 0 0) at.is ∙ first_more at.front at.last front ∙ e), front)
            | inr full ↦ inr (let all : length w ≡ suc k = full in omega (arith, all, long))
          ]))
      | inl none ↦ elim (cases_eq k 0) [
        | inl last ↦ longer k at.last at.front acc passes.1 (number_of k at.front (at.last ∷ acc) passes.0 less (inr (let z : length at.front ≡ 0 = none in omega (arith, z, last))))
        | inr room ↦
            subst (λ u. HasNumber (suc k) (u ++ at.last ∷ []) acc) (sym (empty at.front none))
            (alone k at.last acc passes.1 (elim kind [
              | inl lead ↦ λ e. lead.0 (ap (λ v. get_or v 0 0) at.is ∙ ap (λ u. get_or (u ++ at.last ∷ []) 0 0) (empty at.front none) ∙ e)
              | inr full ↦ absurd (room (let all : length w ≡ suc k = full in let z : length at.front ≡ 0 = none in omega (arith, all, long, z)))
            ]))
      ]
    ])

-- ---- decimals

pub is_numeral : (w : List ℕ) (n : ℕ) → w ≡ decimal n → IsNumeral 64 n w
unfolding digits
is_numeral w n is = let p = printed 64 n [] in subst (IsNumeral 64 n) (sym (is ∙ p.is ∙ append-nil p.word)) p.numeral

zero_is : (w : List ℕ) → length w ≡ 1 → get_or w 0 0 ≡ 48 → w ≡ decimal 0
unfolding digits
zero_is [] one first = absurd (omega (arith, one))
zero_is (x ∷ []) one first = ap (λ b. b ∷ []) first
zero_is (x ∷ y ∷ ys) one first = absurd (omega (arith, one))

pub numeral_is : (w : List ℕ) → are_digits w ≡ true → 1 ≤ length w → length w ≤ 64 → (get_or w 0 0 ≡ 48 → (length w ≡ 1) ⊎ (length w ≡ 64)) → (n : ℕ) × (w ≡ decimal n)
unfolding digits
numeral_is w all some short leading = elim (cases_eq (get_or w 0 0) 48) [
  | inr other ↦ let has = number_of 64 w [] all short (inl (other, some)) in (has.0, sym (has.2 ∙ append-nil w))
  | inl first ↦ elim (leading first) [
    | inl one ↦ (0, zero_is w one first)
    | inr full ↦ let has = number_of 64 w [] all short (inr full) in (has.0, sym (has.2 ∙ append-nil w))
  ]
]

-- ---- tests that are told

pub refuted : (A : Type 0) → (A → ⊥) → (IsTrue false → A) × (A → IsTrue false)
refuted A never = (λ t. absurd (let f : false ≡ true = t in cc), λ a. absurd (never a))

pub not_empty : (w : List ℕ) (n : ℕ) → w ≡ decimal n → length w ≡ 0 → ⊥
not_empty w n is none = let some : 1 ≤ length w = (is_numeral w n is).some (omega arith) in omega (arith, some, none)

pub not_long : (w : List ℕ) (n : ℕ) → w ≡ decimal n → 64 < length w → ⊥
not_long w n is long = let short : length w ≤ 64 = (is_numeral w n is).short in omega (arith, short, long)

pub not_padded : (w : List ℕ) (n : ℕ) → w ≡ decimal n → 1 < length w → length w < 64 → get_or w 0 0 ≡ 48 → ⊥
not_padded w n is more less first = elim ((is_numeral w n is).leading first (omega (arith, more))) [
  | inl zero_is ↦ (let one : length w ≡ 1 = zero_is.1 in omega (arith, one, more))
  | inr full ↦ (let all : length w ≡ 64 = full in omega (arith, all, less))
]

pub decimal_is : (w : List ℕ) (b : Bool) → b ≡ are_digits w → 1 ≤ length w → length w ≤ 64 → (1 < length w → length w < 64 → get_or w 0 0 ≡ 48 → ⊥) → (IsTrue b → (n : ℕ) × (w ≡ decimal n)) × (((n : ℕ) × (w ≡ decimal n)) → IsTrue b)
decimal_is w b told some short plain = (
  λ t. numeral_is w (sym told ∙ t) some short (λ first. elim (cases_eq (length w) 1) [
    | inl one ↦ inl one
    | inr more ↦ elim (cases_eq (length w) 64) [
      | inl full ↦ inr full
      | inr less ↦ absurd (plain (omega (arith, more, some)) (omega (arith, less, short)) first)
    ]
  ]),
  λ has. told ∙ (is_numeral w has.0 has.1).digits,
)

pub is_some : (n : ℕ) (b : Bool) → b ≡ (n == 0) → b ≡ false → 1 ≤ n
is_some n b told off = elim (cases_eq n 0) [
  | inl none ↦ absurd (let f : false ≡ true = sym off ∙ told ∙ eq-eqb n 0 none in cc)
  | inr some ↦ omega (arith, some)
]
