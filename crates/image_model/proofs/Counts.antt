-- How many elements of a list pass a test.
use Rattle.std.proofs.Common.{◌≡◌, ◌≢◌, ℕ, zero, suc, ◌+◌, ◌≤◌, inl, inr, Bool, true, List, [], ◌∷◌, ◌++◌, Some, refl, sym, ap, ◌∙◌, subst, arith, cond}
use Rattle.std.specs.Prelude.{count_by, flat_map, slice_get}
use Rattle.std.specs.List.{AllByRecursion}
use Rattle.std.proofs.lemmas.Bool.{cond-true}
use Rattle.std.proofs.lemmas.List.Sums.{sum_by-append, sum_by-cons}
use Rattle.image_model.proofs.Members.{IsIn}
use Rattle.image_model.proofs.Held.{none_some, some_same}

pub all_in : {X : Type 0} (P : X → Type 0) (x : X) (xs : List X) → AllByRecursion P xs → IsIn x xs → P x
all_in P x [] all h = elim h [ ]
all_in P x (y ∷ ys) all (inl e) = subst P (sym e) all.0
all_in P x (y ∷ ys) all (inr h) = all_in P x ys all.1 h

pub at_in : {X : Type 0} (x : X) (xs : List X) (i : ℕ) → slice_get xs i ≡ Some x → IsIn x xs
at_in x [] i e = absurd (none_some e)
at_in x (y ∷ ys) zero e = inl (sym (some_same e))
at_in x (y ∷ ys) (suc i) e = inr (at_in x ys i e)

module _ {X : Type 0} (test : X → Bool) where
  abbrev one : X → ℕ
  one x = cond (test x) 1 0

  count_cons : (x : X) (xs : List X) → count_by test (x ∷ xs) ≡ one x + count_by test xs
  count_cons x xs = sum_by-cons one x xs

  counts_one : (x : X) → test x ≡ true → one x ≡ 1
  counts_one x e = cond-true _ 1 0 e

  pub count_append : (xs ys : List X) → count_by test (xs ++ ys) ≡ count_by test xs + count_by test ys
  count_append xs ys = sum_by-append one xs ys

  pub count_some : (x : X) (xs : List X) → IsIn x xs → test x ≡ true → 1 ≤ count_by test xs
  count_some x [] h e = elim h [ ]
  count_some x (y ∷ ys) (inl s) e = omega (arith, counts_one y (ap test (sym s) ∙ e), count_cons y ys)
  count_some x (y ∷ ys) (inr h) e = omega (arith, count_some x ys h e, count_cons y ys)

  pub count_two : (x y : X) (xs : List X) (i j : ℕ) → slice_get xs i ≡ Some x → slice_get xs j ≡ Some y → i ≢ j → test x ≡ true → test y ≡ true → 2 ≤ count_by test xs
  count_two x y [] i j at at' d e f = absurd (none_some at)
  count_two x y (z ∷ zs) zero zero at at' d e f = absurd (d refl)
  count_two x y (z ∷ zs) zero (suc j) at at' d e f = omega (arith, counts_one z (ap test (some_same at) ∙ e), count_some y zs (at_in y zs j at') f, count_cons z zs)
  count_two x y (z ∷ zs) (suc i) zero at at' d e f = omega (arith, counts_one z (ap test (some_same at') ∙ f), count_some x zs (at_in x zs i at) e, count_cons z zs)
  count_two x y (z ∷ zs) (suc i) (suc j) at at' d e f = omega (arith, count_two x y zs i j at at' (λ s. d (ap suc s)) e f, count_cons z zs)

  -- where at most one passes, those that pass are one
  pub one_passes : (x y : X) (xs : List X) → count_by test xs ≤ 1 → IsIn x xs → IsIn y xs → test x ≡ true → test y ≡ true → x ≡ y
  one_passes x y [] low h g e f = elim h [ ]
  one_passes x y (z ∷ zs) low (inl s) (inl t) e f = s ∙ sym t
  one_passes x y (z ∷ zs) low (inl s) (inr g) e f = absurd (omega (arith, low, counts_one z (ap test (sym s) ∙ e), count_some y zs g f, count_cons z zs))
  one_passes x y (z ∷ zs) low (inr h) (inl t) e f = absurd (omega (arith, low, counts_one z (ap test (sym t) ∙ f), count_some x zs h e, count_cons z zs))
  one_passes x y (z ∷ zs) low (inr h) (inr g) e f = one_passes x y zs (omega (arith, low, count_cons z zs)) h g e f

  module _ {Y : Type 0} (f : Y → List X) where
    pub count_part : (y : Y) (ys : List Y) → IsIn y ys → count_by test (f y) ≤ count_by test (flat_map f ys)
    count_part y [] h = elim h [ ]
    count_part y (z ∷ zs) (inl e) = omega (arith, count_append (f z) (flat_map f zs), ap (λ w. count_by test (f w)) e)
    count_part y (z ∷ zs) (inr h) = omega (arith, count_append (f z) (flat_map f zs), count_part y zs h)

    pub count_parts : (x y : Y) (ys : List Y) → IsIn x ys → IsIn y ys → x ≢ y → count_by test (f x) + count_by test (f y) ≤ count_by test (flat_map f ys)
    count_parts x y [] h g d = elim h [ ]
    count_parts x y (z ∷ zs) (inl e) (inl e') d = absurd (d (e ∙ sym e'))
    count_parts x y (z ∷ zs) (inl e) (inr g) d = omega (arith, count_append (f z) (flat_map f zs), ap (λ w. count_by test (f w)) e, count_part y zs g)
    count_parts x y (z ∷ zs) (inr h) (inl e) d = omega (arith, count_append (f z) (flat_map f zs), ap (λ w. count_by test (f w)) e, count_part x zs h)
    count_parts x y (z ∷ zs) (inr h) (inr g) d = omega (arith, count_append (f z) (flat_map f zs), count_parts x y zs h g d)
