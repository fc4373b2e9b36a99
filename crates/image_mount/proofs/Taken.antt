-- The blocks that were read, as they are told one by one.
use Rattle.std.proofs.Common.{◌≡◌, inl, inr, ℕ, ◌+◌, ◌<◌, List, [], ◌∷◌, ◌++◌, length, get_or, sym, subst, arith}
use Rattle.std.specs.Prelude.{◌↔◌, Contains, true}
use Rattle.std.specs.List.Sorted.{IsStrictlyIncreasing}
use Rattle.std.proofs.lemmas.Bool.{cases_eq, cases_lt}
use Rattle.std.proofs.lemmas.List.{get_or_append_left, get_or_default, get_or_push, length_push}
use Rattle.std.proofs.lemmas.List.Elements.{Contains-append_left, Contains-push, Contains-push_cases}
use Rattle.std.proofs.lemmas.Option.{slice_get_within}
use Rattle.image_mount.specs.Kept.{Kept}
use Rattle.image_mount.specs.Marked.{IsTaken, of_kept, of_leaf, of_place}
use Rattle.image_mount.proofs.Shown.{kept_inside}

rising_push : (xs : List ℕ) (x : ℕ) → IsStrictlyIncreasing xs → ((k : ℕ) → k < length xs → get_or xs k 0 < x) → IsStrictlyIncreasing (xs ++ x ∷ [])
rising_push xs x rise below k low = elim (cases_lt (k + 1) (length xs)) [
  | inl less ↦
      let here = get_or_append_left xs (x ∷ []) 0 k (omega (arith, less)) in
      let next = get_or_append_left xs (x ∷ []) 0 (k + 1) less in
      omega (arith, here, next, rise k less)
  | inr high ↦
      let all : length xs ≡ k + 1 = omega (arith, high, low, length_push xs x) in
      let here = get_or_append_left xs (x ∷ []) 0 k (omega (arith, all)) in
      let last = get_or_push xs x 0 (k + 1) all in
      omega (arith, here, last, below k (omega (arith, all)))
]

-- what was read is of the device
pub taken_inside : (k : Kept) → length k.places ≡ length k.entries → length k.leaves ≡ length k.entries → (b : ℕ) → IsTaken k b → b < length k.entries
taken_inside k places leaves b (of_place at) = omega (arith, places, slice_get_within k.places b true at)
taken_inside k places leaves b (of_leaf at) = omega (arith, leaves, slice_get_within k.leaves b true at)
taken_inside k places leaves b (of_kept bytes at) = kept_inside k.entries b bytes at

-- those below n are told
module _ (k : Kept) (xs : List ℕ) (n : ℕ) (there : (b : ℕ) → Contains xs b ↔ (IsTaken k b × (b < n))) where
  pub taken_more : (new : List ℕ) → new ≡ xs ++ n ∷ [] → IsTaken k n → (b : ℕ) → Contains new b ↔ (IsTaken k b × (b < n + 1))
  taken_more new is here b = subst (λ ys. Contains ys b ↔ (IsTaken k b × (b < n + 1))) (sym is) (
    λ has. elim (Contains-push_cases xs n b has) [
      | inl old ↦ let both = (there b).0 old in (both.0, let low : b < n = both.1 in omega (arith, low))
      | inr same ↦ (subst (IsTaken k) same here, omega (arith, same))
    ],
    λ both. elim (cases_eq b n) [
      | inl same ↦ subst (Contains (xs ++ n ∷ [])) (sym same) (Contains-push xs n)
      | inr other ↦ let low : b < n + 1 = both.1 in Contains-append_left xs (n ∷ []) b ((there b).1 (both.0, omega (arith, low, other)))
    ],
  )

  pub untaken_more : ¬ (IsTaken k n) → (b : ℕ) → Contains xs b ↔ (IsTaken k b × (b < n + 1))
  untaken_more free b = (
    λ has. let both = (there b).0 has in (both.0, let low : b < n = both.1 in omega (arith, low)),
    λ both. elim (cases_eq b n) [
      | inl same ↦ absurd (free (subst (IsTaken k) same both.0))
      | inr other ↦ let low : b < n + 1 = both.1 in (there b).1 (both.0, omega (arith, low, other))
    ],
  )

  pub rising_more : (new : List ℕ) → new ≡ xs ++ n ∷ [] → IsStrictlyIncreasing xs → IsStrictlyIncreasing new
  rising_more new is rise = subst IsStrictlyIncreasing (sym is) (rising_push xs n rise (λ i low. ((there (get_or xs i 0)).0 (i, low, get_or_default xs i (get_or xs i 0) 0 low)).1))

  pub taken_all : ((b : ℕ) → IsTaken k b → b < n) → (b : ℕ) → Contains xs b ↔ IsTaken k b
  taken_all inside b = (λ has. ((there b).0 has).0, λ taken. (there b).1 (taken, inside b taken))
