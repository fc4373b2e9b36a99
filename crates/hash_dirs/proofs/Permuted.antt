-- Lists of what stands in chosen blocks.
use Rattle.std.proofs.Common.{◌≡◌, ◌≢◌, ℕ, zero, suc, ◌+◌, ◌<◌, ◌≤◌, inl, inr, Bool, true, false, List, [], ◌∷◌, ◌++◌, refl, sym, ap, ◌∙◌, subst, subst₂, append_assoc, cond, arith}
use Rattle.std.specs.Prelude.{filter, flat_map}
use Rattle.std.specs.List.{range_with_len}
use Rattle.std.specs.List.Sorted.{IsPermutation}
use Rattle.std.proofs.lemmas.Bool.{cases_eq, cond-true, cond-false}
use Rattle.std.proofs.lemmas.List.Concat.{flat_map-cons}
use Rattle.std.proofs.lemmas.List.Sorted.{IsPermutation-append_right, IsPermutation-append_comm}

module _ {X : Type 0} where
  pub filter_same : (test other : X → Bool) (xs : List X) → ((x : X) → test x ≡ other x) → filter test xs ≡ filter other xs
  filter_same test other [] same = refl
  filter_same test other (x ∷ xs) same = ap (λ b. cond b (x ∷ filter test xs) (filter test xs)) (same x) ∙ ap (λ ys. cond (other x) (x ∷ ys) ys) (filter_same test other xs same)

  pub filter_none : (test : X → Bool) (xs : List X) → ((x : X) → test x ≡ false) → filter test xs ≡ []
  filter_none test [] none = refl
  filter_none test (x ∷ xs) none = cond-false (test x) (x ∷ filter test xs) (filter test xs) (none x) ∙ filter_none test xs none

-- blocks from one on, one of which is chosen besides
module _ {Y : Type 0} (f : ℕ → List Y) (test more : ℕ → Bool) (y : ℕ) (not_yet : test y ≡ false) (now : more y ≡ true) (others : (x : ℕ) → x ≢ y → more x ≡ test x) where
  behind : (a n : ℕ) → y < a → filter more (range_with_len a n) ≡ filter test (range_with_len a n)
  behind a zero low = refl
  behind a (suc n) low =
      ap (λ b. cond b (a ∷ filter more (range_with_len (a + 1) n)) (filter more (range_with_len (a + 1) n))) (others a (λ e. absurd (let no : y < a = low in omega (arith, no, e))))
      ∙ ap (λ ys. cond (test a) (a ∷ ys) ys) (behind (a + 1) n (omega (arith, low)))

  moved : (front back rest : List Y) → IsPermutation back (rest ++ f y) → IsPermutation (front ++ back) ((front ++ rest) ++ f y)
  moved front back rest same = subst (IsPermutation (front ++ back)) (sym (append_assoc front rest (f y))) (IsPermutation-append_right front back (rest ++ f y) same)

  pub one_more : (a n : ℕ) → a ≤ y → y < a + n → IsPermutation (flat_map f (filter more (range_with_len a n))) (flat_map f (filter test (range_with_len a n)) ++ f y)
  one_more a zero low high = absurd (omega (arith, low, high))
  one_more a (suc n) low high = elim (cases_eq y a) [
    | inl same ↦ here same
    | inr other ↦ later (test a) refl (one_more (a + 1) n (omega (arith, low, other)) (omega (arith, high))) (λ e. other (sym e))
  ]
    where
      rest : List ℕ
      rest = filter test (range_with_len (a + 1) n)

      here : y ≡ a → IsPermutation (flat_map f (filter more (range_with_len a (suc n)))) (flat_map f (filter test (range_with_len a (suc n))) ++ f y)
      here same =
          let new : filter more (range_with_len a (suc n)) ≡ y ∷ filter test (range_with_len (a + 1) n) =
          cond-true (more a) (a ∷ filter more (range_with_len (a + 1) n)) (filter more (range_with_len (a + 1) n)) (ap more (sym same) ∙ now)
          ∙ ap (λ b. b ∷ filter more (range_with_len (a + 1) n)) (sym same) ∙ ap (λ ys. y ∷ ys) (behind (a + 1) n (omega (arith, same))) in
          let old : filter test (range_with_len a (suc n)) ≡ filter test (range_with_len (a + 1) n) =
          cond-false (test a) (a ∷ filter test (range_with_len (a + 1) n)) (filter test (range_with_len (a + 1) n)) (ap test (sym same) ∙ not_yet) in
          subst₂ IsPermutation (sym (ap (flat_map f) new ∙ flat_map-cons f y (filter test (range_with_len (a + 1) n)))) (ap (λ ys. flat_map f ys ++ f y) (sym old))
          (IsPermutation-append_comm (f y) (flat_map f (filter test (range_with_len (a + 1) n))))

      later : (b : Bool) → test a ≡ b → IsPermutation (flat_map f (filter more (range_with_len (a + 1) n))) (flat_map f (filter test (range_with_len (a + 1) n)) ++ f y) → a ≢ y
          → IsPermutation (flat_map f (filter more (range_with_len a (suc n)))) (flat_map f (filter test (range_with_len a (suc n))) ++ f y)
      later true is same other =
          let new : filter more (range_with_len a (suc n)) ≡ a ∷ filter more (range_with_len (a + 1) n) =
          cond-true (more a) (a ∷ filter more (range_with_len (a + 1) n)) (filter more (range_with_len (a + 1) n)) (others a other ∙ is) in
          let old : filter test (range_with_len a (suc n)) ≡ a ∷ filter test (range_with_len (a + 1) n) =
          cond-true (test a) (a ∷ filter test (range_with_len (a + 1) n)) (filter test (range_with_len (a + 1) n)) is in
          subst₂ IsPermutation (sym (ap (flat_map f) new ∙ flat_map-cons f a (filter more (range_with_len (a + 1) n))))
          (ap (λ ys. ys ++ f y) (sym (ap (flat_map f) old ∙ flat_map-cons f a (filter test (range_with_len (a + 1) n)))))
          (moved (f a) (flat_map f (filter more (range_with_len (a + 1) n))) (flat_map f (filter test (range_with_len (a + 1) n))) same)
      later false is same other =
          let new : filter more (range_with_len a (suc n)) ≡ filter more (range_with_len (a + 1) n) =
          cond-false (more a) (a ∷ filter more (range_with_len (a + 1) n)) (filter more (range_with_len (a + 1) n)) (others a other ∙ is) in
          let old : filter test (range_with_len a (suc n)) ≡ filter test (range_with_len (a + 1) n) =
          cond-false (test a) (a ∷ filter test (range_with_len (a + 1) n)) (filter test (range_with_len (a + 1) n)) is in
          subst₂ IsPermutation (ap (flat_map f) (sym new)) (ap (λ ys. flat_map f ys ++ f y) (sym old)) same
