-- Numbers that are apart, by the same ones in order.
use Rattle.std.proofs.Common.{◌≡◌, ◌⊎◌, ℕ, ◌+◌, ◌<◌, ◌≤◌, List, length, get_or, refl, sym, ap, ◌∙◌, subst, inl, inr, arith}
use Rattle.std.specs.Prelude.{◌↔◌, Bool, IsTrue}
use Rattle.std.specs.Ordering.{nat_cmp}
use Rattle.std.specs.List.{swap}
use Rattle.std.specs.List.Sorted.{IsPermutation, IsSorted, IsStrictlyIncreasing}
use Rattle.std.proofs.lemmas.Bool.{cases_eq, cases_lt}
use Rattle.std.proofs.lemmas.List.Edits.{Swapped, length-swap, swapped_from_swap}
use Rattle.std.proofs.lemmas.List.Kept.{AllPairs-from_increasing}
use Rattle.std.proofs.lemmas.List.Sorted.{IsNonDecreasingBy-from_sort, IsPermutation-keeps, IsPermutation-sym}
use Rattle.lone_runs.specs.Placing.{AreApart}

-- ---- two that are swapped

-- what is at place p behind the swap of i and j was at place o
abbrev Was : (i j p o : ℕ) → Type 0
Was i j p o = ((p ≡ i) × (o ≡ j)) ⊎ (((p ≡ j) × (o ≡ i)) ⊎ ((p ≡ i → ⊥) × (p ≡ j → ⊥) × (o ≡ p)))

was_at : (i j p : ℕ) → (o : ℕ) × Was i j p o
was_at i j p = elim (cases_eq p i) [
  | inl first ↦ (j, inl (first, refl))
  | inr not_first ↦ elim (cases_eq p j) [ inl second ↦ (i, inr (inl (second, refl))) | inr not_second ↦ (p, inr (inr (not_first, not_second, refl))) ]
]

-- no two of them were at one
was_once : (i j p q o : ℕ) → Was i j p o → Was i j q o → p ≡ q
was_once i j p q o (inl (a, b)) (inl (c, d)) = omega (arith, a, b, c, d)
was_once i j p q o (inl (a, b)) (inr (inl (c, d))) = omega (arith, a, b, c, d)
was_once i j p q o (inl (a, b)) (inr (inr (c, d, e))) = absurd (d (sym e ∙ b))
was_once i j p q o (inr (inl (a, b))) (inl (c, d)) = omega (arith, a, b, c, d)
was_once i j p q o (inr (inl (a, b))) (inr (inl (c, d))) = omega (arith, a, b, c, d)
was_once i j p q o (inr (inl (a, b))) (inr (inr (c, d, e))) = absurd (c (sym e ∙ b))
was_once i j p q o (inr (inr (a, b, c))) (inl (d, e)) = absurd (b (sym c ∙ e))
was_once i j p q o (inr (inr (a, b, c))) (inr (inl (d, e))) = absurd (a (sym c ∙ e))
was_once i j p q o (inr (inr (a, b, c))) (inr (inr (d, e, f))) = sym c ∙ f

was_low : (i j p o n : ℕ) → i < n → j < n → p < n → Was i j p o → o < n
was_low i j p o n first second low (inl (a, b)) = omega (arith, second, b)
was_low i j p o n first second low (inr (inl (a, b))) = omega (arith, first, b)
was_low i j p o n first second low (inr (inr (a, b, c))) = omega (arith, low, c)

was_same : (f g : ℕ → ℕ) (i j p o : ℕ) → Swapped f g i j → Was i j p o → g p ≡ f o
was_same f g i j p o (first, second, others) (inl (a, b)) = ap g a ∙ first ∙ ap f (sym b)
was_same f g i j p o (first, second, others) (inr (inl (a, b))) = ap g a ∙ second ∙ ap f (sym b)
was_same f g i j p o (first, second, others) (inr (inr (a, b, c))) = others p a b ∙ ap f (sym c)

swapped_apart : (l : List ℕ) (i j : ℕ) → i < length l → j < length l → AreApart l → AreApart (swap l i j)
swapped_apart l i j first second apart p q low high same =
    let swapped = swapped_from_swap l (swap l i j) i j 0 first second refl in
    let was : (o : ℕ) × Was i j p o = was_at i j p in
    let other : (o : ℕ) × Was i j q o = was_at i j q in
    let long : length (swap l i j) ≡ length l = length-swap l i j in
    let one : was.0 ≡ other.0
    = apart was.0 other.0 (was_low i j p was.0 (length l) first second (subst (λ n. p < n) long low) was.1) (was_low i j q other.0 (length l) first second (subst (λ n. q < n) long high) other.1)
    (sym (was_same (λ k. get_or l k 0) (λ k. get_or (swap l i j) k 0) i j p was.0 swapped was.1) ∙ same ∙ was_same (λ k. get_or l k 0) (λ k. get_or (swap l i j) k 0) i j q other.0 swapped other.1) in
    was_once i j p q other.0 (subst (Was i j p) one was.1) other.1

-- another order keeps them apart
permuted_apart : (xs ys : List ℕ) → IsPermutation xs ys → AreApart xs → AreApart ys
permuted_apart xs ys moved apart = IsPermutation-keeps xs AreApart apart (λ l i j first second is. swapped_apart l i j first second is) ys moved

-- ---- in order

rising_apart : (ys : List ℕ) → IsStrictlyIncreasing ys → AreApart ys
rising_apart ys up p q low high same =
    elim (cases_lt p q) [
      | inl less ↦ absurd (unequal (get_or ys p 0) (get_or ys q 0) (AllPairs-from_increasing ys up p q 0 less high) same)
      | inr above ↦ elim (cases_lt q p) [
        | inl more ↦ absurd (unequal (get_or ys q 0) (get_or ys p 0) (AllPairs-from_increasing ys up q p 0 more low) (sym same))
        | inr below ↦ both p q below above
      ]
    ]
  where
    unequal : (x y : ℕ) → x < y → x ≡ y → ⊥
    unequal x y less e = omega (arith, less, e)

    both : (x y : ℕ) → x ≤ y → y ≤ x → x ≡ y
    both x y a b = omega (arith, a, b)

apart_rising : (ys : List ℕ) → IsSorted nat_cmp ys → AreApart ys → IsStrictlyIncreasing ys
apart_rising ys sorted apart k low =
    elim (cases_lt (get_or ys k 0) (get_or ys (k + 1) 0)) [
      | inl less ↦ less
      | inr above ↦ absurd (next k (apart k (k + 1) (before k (length ys) low) low (both (get_or ys k 0) (get_or ys (k + 1) 0) (IsNonDecreasingBy-from_sort (λ x. x) ys sorted k (k + 1) 0 (step k) low) above)))
    ]
  where
    next : (n : ℕ) → n ≡ n + 1 → ⊥
    next n e = omega (arith, e)

    step : (n : ℕ) → n ≤ n + 1
    step n = omega arith

    before : (n m : ℕ) → n + 1 < m → n < m
    before n m h = omega (arith, h)

    both : (x y : ℕ) → x ≤ y → y ≤ x → x ≡ y
    both x y a b = omega (arith, a, b)

-- they are apart exactly where the same ones, in order, rise
apart_in_order : (xs ys : List ℕ) → IsPermutation xs ys → IsSorted nat_cmp ys → IsStrictlyIncreasing ys ↔ AreApart xs
apart_in_order xs ys moved sorted = (λ up. permuted_apart ys xs (IsPermutation-sym xs ys moved) (rising_apart ys up), λ apart. apart_rising ys sorted (permuted_apart xs ys moved apart))

pub apart_by_rise : (r : Bool) (xs old new ys : List ℕ) → old ≡ xs → IsPermutation old new → IsSorted nat_cmp new → ys ≡ new → IsTrue r ↔ IsStrictlyIncreasing ys → IsTrue r ↔ AreApart xs
apart_by_rise r xs old new ys from moved sorted read is =
    let it : IsStrictlyIncreasing new ↔ AreApart xs = apart_in_order xs new (subst (λ l. IsPermutation l new) from moved) sorted in
    let rises : IsTrue r ↔ IsStrictlyIncreasing new = subst (λ l. IsTrue r ↔ IsStrictlyIncreasing l) read is in
    (λ t. it.0 (rises.0 t), λ a. rises.1 (it.1 a))
