-- Rising lists: their fronts, and what of them is above a number.
use Rattle.std.proofs.Common.{◌≡◌, ℕ, zero, suc, ◌+◌, ◌<◌, ◌≤◌, inl, inr, Bool, true, false, List, [], ◌∷◌, ◌++◌, get_or, take, refl, sym, ap, subst, ◌∙◌, arith}
use Rattle.std.specs.Prelude.{filter, nat_lt}
use Rattle.std.specs.List.Sorted.{IsStrictlyIncreasing}
use Rattle.std.proofs.lemmas.Bool.{cases_lt, cond-true, cond-false, lt-ltb, le-ltb}
use Rattle.image_model.proofs.Counts.{all_in}
use Rattle.image_model.proofs.Members.{IsIn, in_either}
use Rattle.image_model.proofs.Rising.{Rising, all_of}

-- ---- fronts

pub take-take-append : (n : ℕ) (xs ys : List ℕ) → take n (take n xs ++ ys) ≡ take n (xs ++ ys)
take-take-append zero [] ys = refl
take-take-append zero (x ∷ xs) ys = refl
take-take-append (suc n) [] ys = refl
take-take-append (suc n) (x ∷ xs) ys = ap (λ zs. x ∷ zs) (take-take-append n xs ys)

pub from_take : (n : ℕ) (xs : List ℕ) (x : ℕ) → IsIn x (take n xs) → IsIn x xs
from_take zero [] x there = there
from_take zero (y ∷ ys) x there = elim there [ ]
from_take (suc n) [] x there = there
from_take (suc n) (y ∷ ys) x (inl e) = inl e
from_take (suc n) (y ∷ ys) x (inr later) = inr (from_take n ys x later)

-- ---- rising lists

pub unrise : (xs : List ℕ) → Rising xs → IsStrictlyIncreasing xs
unrise [] r k low = absurd (omega (arith, low))
unrise (x ∷ []) r k low = absurd (omega (arith, low))
unrise (x ∷ y ∷ ys) r zero low = r.0.0
unrise (x ∷ y ∷ ys) r (suc k) low =
    let one : suc (k + 1) ≡ suc k + 1 = omega arith in
    subst (λ n. get_or (x ∷ y ∷ ys) (suc k) 0 < get_or (x ∷ y ∷ ys) n 0) one (unrise (y ∷ ys) r.1 k (omega (arith, low)))

pub rising_take : (n : ℕ) (xs : List ℕ) → Rising xs → Rising (take n xs)
rising_take zero [] r = tt
rising_take zero (x ∷ xs) r = tt
rising_take (suc n) [] r = tt
rising_take (suc n) (x ∷ xs) r = (all_of (λ y. x < y) (take n xs) (λ y there. all_in (λ z. x < z) y xs r.0 (from_take n xs y there)), rising_take n xs r.1)

pub rising_append : (xs ys : List ℕ) → Rising xs → Rising ys → ((x y : ℕ) → IsIn x xs → IsIn y ys → x < y) → Rising (xs ++ ys)
rising_append [] ys r s apart = s
rising_append (x ∷ xs) ys r s apart = (
  all_of (λ y. x < y) (xs ++ ys) (λ y there. elim (in_either y xs ys there) [
    | inl left ↦ all_in (λ z. x < z) y xs r.0 left
    | inr right ↦ apart x y (inl refl) right
  ]),
  rising_append xs ys r.1 s (λ a b h k. apart a b (inr h) k),
)

-- ---- what is above a number

abbrev pub above : ℕ → List ℕ → List ℕ
above after xs = filter (λ b. nat_lt after b) xs

all_pass : (p : ℕ → Bool) (xs : List ℕ) → ((b : ℕ) → IsIn b xs → p b ≡ true) → filter p xs ≡ xs
all_pass p [] all = refl
all_pass p (x ∷ xs) all = cond-true (p x) (x ∷ filter p xs) (filter p xs) (all x (inl refl)) ∙ ap (λ ys. x ∷ ys) (all_pass p xs (λ b h. all b (inr h)))

none_pass : (p : ℕ → Bool) (xs : List ℕ) → ((b : ℕ) → IsIn b xs → p b ≡ false) → filter p xs ≡ []
none_pass p [] none = refl
none_pass p (x ∷ xs) none = cond-false (p x) (x ∷ filter p xs) (filter p xs) (none x (inl refl)) ∙ none_pass p xs (λ b h. none b (inr h))

pub all_above : (after : ℕ) (xs : List ℕ) → ((b : ℕ) → IsIn b xs → after < b) → above after xs ≡ xs
all_above after xs all = all_pass (λ b. nat_lt after b) xs (λ b there. lt-ltb after b (all b there))

pub none_above : (after : ℕ) (xs : List ℕ) → ((b : ℕ) → IsIn b xs → b ≤ after) → above after xs ≡ []
none_above after xs none = none_pass (λ b. nat_lt after b) xs (λ b there. le-ltb after b (none b there))

-- the least of them, and those above it
pub next_above : (xs : List ℕ) (after b : ℕ) → Rising xs → IsIn b xs → after < b → ((c : ℕ) → IsIn c xs → after < c → b ≤ c) → above after xs ≡ b ∷ above b xs
next_above [] after b r there low least = elim there [ ]
next_above (x ∷ xs) after b r there low least = elim (cases_lt after x) [
  | inl higher ↦ here there (least x (inl refl) higher)
  | inr lower ↦
      cond-false (nat_lt after x) (x ∷ above after xs) (above after xs) (le-ltb after x lower)
      ∙ next_above xs after b r.1 (behind there lower) low (λ c h. least c (inr h))
      ∙ ap (λ ys. b ∷ ys) (sym (cond-false (nat_lt b x) (x ∷ above b xs) (above b xs) (le-ltb b x (omega (arith, lower, low)))))
]
  where
    behind : IsIn b (x ∷ xs) → x ≤ after → IsIn b xs
    behind (inl e) lower = absurd (omega (arith, e, lower, low))
    behind (inr later) lower = later

    beyond : (n : ℕ) → n ≤ x → above n xs ≡ xs
    beyond n low = all_above n xs (λ c h. let after_x = all_in (λ z. x < z) c xs r.0 h in omega (arith, after_x, low))

    same : b ≡ x → above after (x ∷ xs) ≡ b ∷ above b (x ∷ xs)
    same e =
        cond-true (nat_lt after x) (x ∷ above after xs) (above after xs) (lt-ltb after x (omega (arith, e, low)))
        ∙ ap (λ ys. x ∷ ys) (beyond after (omega (arith, e, low)) ∙ sym (beyond b (omega (arith, e))) ∙ sym (cond-false (nat_lt b x) (x ∷ above b xs) (above b xs) (le-ltb b x (omega (arith, e)))))
        ∙ ap (λ y. y ∷ above b (x ∷ xs)) (sym e)

    here : IsIn b (x ∷ xs) → b ≤ x → above after (x ∷ xs) ≡ b ∷ above b (x ∷ xs)
    here (inl e) most = same e
    here (inr later) most = let over = all_in (λ z. x < z) b xs r.0 later in absurd (omega (arith, over, most))
