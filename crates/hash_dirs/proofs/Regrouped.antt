-- The records of all leaves, where those of one are others.
use Rattle.std.proofs.Common.{◌≡◌, ◌≢◌, ℕ, zero, suc, ◌+◌, ◌<◌, ◌≤◌, inl, inr, Bool, true, false, List, ◌∷◌, ◌++◌, refl, sym, ap, ap₂, ◌∙◌, subst, subst₂, append_assoc, arith}
use Rattle.std.specs.Prelude.{filter, flat_map}
use Rattle.std.specs.List.{range_with_len}
use Rattle.std.specs.List.Sorted.{IsPermutation}
use Rattle.std.proofs.lemmas.Bool.{cases_eq, cond-true, cond-false}
use Rattle.std.proofs.lemmas.List.Concat.{flat_map-cons}
use Rattle.std.proofs.lemmas.List.Sorted.{IsPermutation-trans, IsPermutation-append_left, IsPermutation-append_right, IsPermutation-append_comm}
use Rattle.gfs2_layout.specs.Exchanges.{IsExchanged}
use Rattle.gfs2_layout.specs.Records.{Record}

-- what stands beside an exchange goes along
module _ (old new gone come : List Record) (is : IsExchanged old new gone come) where
  pub beside : (more : List Record) → IsExchanged (old ++ more) (new ++ more) gone come
  beside more = record {
    rest = is.rest ++ more;
    before = subst (IsPermutation (old ++ more)) (append_assoc gone is.rest more) (IsPermutation-append_left more old (gone ++ is.rest) is.before);
    after = subst (IsPermutation (new ++ more)) (append_assoc come is.rest more) (IsPermutation-append_left more new (come ++ is.rest) is.after);
  }

  swapped : (front xs ys : List Record) → IsPermutation xs (ys ++ is.rest) → IsPermutation (front ++ xs) (ys ++ (front ++ is.rest))
  swapped front xs ys same =
      IsPermutation-trans (front ++ xs) (front ++ (ys ++ is.rest)) (ys ++ (front ++ is.rest)) (IsPermutation-append_right front xs (ys ++ is.rest) same)
      (subst₂ IsPermutation (append_assoc front ys is.rest) (append_assoc ys front is.rest) (IsPermutation-append_left is.rest (front ++ ys) (ys ++ front) (IsPermutation-append_comm front ys)))

  pub behind : (front : List Record) → IsExchanged (front ++ old) (front ++ new) gone come
  behind front = record { rest = front ++ is.rest; before = swapped front old gone is.before; after = swapped front new come is.after }

module _ (f k : ℕ → List Record) (test : ℕ → Bool) (y : ℕ) (passes : test y ≡ true) (gone come : List Record) (is : IsExchanged (f y) (k y) gone come) (others : (x : ℕ) → x ≢ y → test x ≡ true → k x ≡ f x) where
  same_behind : (a n : ℕ) → y < a → flat_map k (filter test (range_with_len a n)) ≡ flat_map f (filter test (range_with_len a n))
  same_behind a zero low = refl
  same_behind a (suc n) low = by (test a) refl (same_behind (a + 1) n (omega (arith, low)))
    where
      by : (b : Bool) → test a ≡ b → flat_map k (filter test (range_with_len (a + 1) n)) ≡ flat_map f (filter test (range_with_len (a + 1) n))
          → flat_map k (filter test (range_with_len a (suc n))) ≡ flat_map f (filter test (range_with_len a (suc n)))
      by true e same =
          let is_in : filter test (range_with_len a (suc n)) ≡ a ∷ filter test (range_with_len (a + 1) n) = cond-true (test a) (a ∷ filter test (range_with_len (a + 1) n)) (filter test (range_with_len (a + 1) n)) e in
          ap (flat_map k) is_in ∙ flat_map-cons k a (filter test (range_with_len (a + 1) n)) ∙ ap₂ (λ x z. x ++ z) (others a (λ q. absurd (let no : y < a = low in omega (arith, no, q))) e) same
          ∙ sym (ap (flat_map f) is_in ∙ flat_map-cons f a (filter test (range_with_len (a + 1) n)))
      by false e same =
          let out : filter test (range_with_len a (suc n)) ≡ filter test (range_with_len (a + 1) n) = cond-false (test a) (a ∷ filter test (range_with_len (a + 1) n)) (filter test (range_with_len (a + 1) n)) e in
          ap (flat_map k) out ∙ same ∙ sym (ap (flat_map f) out)

  abbrev Exchanged : List ℕ → Type 0
  Exchanged xs = IsExchanged (flat_map f xs) (flat_map k xs) gone come

  pub regrouped : (a n : ℕ) → a ≤ y → y < a + n → IsExchanged (flat_map f (filter test (range_with_len a n))) (flat_map k (filter test (range_with_len a n))) gone come
  regrouped a zero low high = absurd (omega (arith, low, high))
  regrouped a (suc n) low high = elim (cases_eq y a) [
    | inl same ↦ here same
    | inr other ↦ later (test a) refl (regrouped (a + 1) n (omega (arith, low, other)) (omega (arith, high))) (λ e. other (sym e))
  ]
    where
      here : y ≡ a → Exchanged (filter test (range_with_len a (suc n)))
      here same =
          let is_in : filter test (range_with_len a (suc n)) ≡ y ∷ filter test (range_with_len (a + 1) n) =
          cond-true (test a) (a ∷ filter test (range_with_len (a + 1) n)) (filter test (range_with_len (a + 1) n)) (ap test (sym same) ∙ passes) ∙ ap (λ b. b ∷ filter test (range_with_len (a + 1) n)) (sym same) in
          subst Exchanged (sym is_in)
          (subst₂ (λ xs ys. IsExchanged xs ys gone come) (sym (flat_map-cons f y (filter test (range_with_len (a + 1) n))))
          (ap (λ zs. k y ++ zs) (sym (same_behind (a + 1) n (omega (arith, same)))) ∙ sym (flat_map-cons k y (filter test (range_with_len (a + 1) n))))
          (beside (f y) (k y) gone come is (flat_map f (filter test (range_with_len (a + 1) n)))))

      later : (b : Bool) → test a ≡ b → Exchanged (filter test (range_with_len (a + 1) n)) → a ≢ y → Exchanged (filter test (range_with_len a (suc n)))
      later true e same other =
          let is_in : filter test (range_with_len a (suc n)) ≡ a ∷ filter test (range_with_len (a + 1) n) = cond-true (test a) (a ∷ filter test (range_with_len (a + 1) n)) (filter test (range_with_len (a + 1) n)) e in
          subst Exchanged (sym is_in)
          (subst₂ (λ xs ys. IsExchanged xs ys gone come) (sym (flat_map-cons f a (filter test (range_with_len (a + 1) n))))
          (ap (λ zs. zs ++ flat_map k (filter test (range_with_len (a + 1) n))) (sym (others a other e)) ∙ sym (flat_map-cons k a (filter test (range_with_len (a + 1) n))))
          (behind (flat_map f (filter test (range_with_len (a + 1) n))) (flat_map k (filter test (range_with_len (a + 1) n))) gone come same (f a)))
      later false e same other =
          let out : filter test (range_with_len a (suc n)) ≡ filter test (range_with_len (a + 1) n) = cond-false (test a) (a ∷ filter test (range_with_len (a + 1) n)) (filter test (range_with_len (a + 1) n)) e in
          subst Exchanged (sym out) same
