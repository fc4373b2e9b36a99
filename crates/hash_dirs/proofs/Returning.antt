-- A chain of leaves that goes on for as long as there are blocks comes to one of them again.
use Rattle.std.proofs.Common.{◌≡◌, ◌≢◌, ℕ, zero, suc, ◌<◌, ◌≤◌, ◌⊎◌, inl, inr, sym, ap, ◌∙◌, arith}
use Rattle.std.specs.Prelude.{◌==◌, if◌then◌else◌}
use Rattle.std.proofs.lemmas.Bool.Decides.{nat_tests}

-- ---- two of more places than there are values have the same

abbrev Repeats : (ℕ → ℕ) → ℕ → Type 0
Repeats f n = (i j : ℕ) × (i < j) × (j ≤ n) × (f i ≡ f j)

equal_or_not : (a b : ℕ) → (a ≡ b) ⊎ (a ≢ b)
equal_or_not a b = grind arith

search_for : (f : ℕ → ℕ) (v n : ℕ) → ((k : ℕ) × (k ≤ n) × (f k ≡ v)) ⊎ ((k : ℕ) → k ≤ n → f k ≢ v)
search_for f v zero = elim (equal_or_not (f 0) v) [ inl e ↦ inl (0, omega arith, e) | inr not ↦ inr (λ k le e. not (ap f (let z : 0 ≡ k = omega arith in z) ∙ e)) ]
search_for f v (suc n) = elim (equal_or_not (f (suc n)) v) [
  | inl e ↦ inl (suc n, omega arith, e)
  | inr not ↦ elim (search_for f v n) [
    | inl some ↦ inl (some.0, (let le : some.0 ≤ n = some.1 in omega arith), some.2)
    | inr none ↦ inr (λ k le e. elim (at_most k n le) [ inl low ↦ none k low e | inr top ↦ not (ap f (sym top) ∙ e) ])
  ]
]
  where
    at_most : (k n : ℕ) → k ≤ suc n → (k ≤ n) ⊎ (k ≡ suc n)
    at_most k n le = grind arith

-- the greatest value becomes another one
instead : ℕ → ℕ → ℕ → ℕ
instead top v x = if x == top then v else x

instead_low : (top v x : ℕ) → x < suc top → v < suc top → x ≢ v → instead top v x < top
unfolding instead
instead_low top v x low vlow ne = grind (arith, nat_tests)

instead_same : (top v x y : ℕ) → x ≢ v → y ≢ v → instead top v x ≡ instead top v y → x ≡ y
unfolding instead
instead_same top v x y xv yv e = grind (arith, nat_tests)

pub repeats : (n : ℕ) (f : ℕ → ℕ) → ((k : ℕ) → k ≤ n → f k < n) → Repeats f n
repeats zero f low = absurd (let no : f 0 < 0 = low 0 (omega arith) in omega arith)
repeats (suc n) f low = elim (search_for f (f (suc n)) n) [
  | inl some ↦ (some.0, suc n, (let le : some.0 ≤ n = some.1 in omega arith), omega arith, some.2)
  | inr none ↦
      let last : f (suc n) < suc n = low (suc n) (omega arith) in
      let again = repeats n (λ k. instead n (f (suc n)) (f k)) (λ k le. instead_low n (f (suc n)) (f k) (low k (omega arith)) last (none k le)) in (
        again.0,
        again.1,
        again.2,
        (let le : again.1 ≤ n = again.3 in omega arith),
        instead_same n (f (suc n)) (f again.0) (f again.1) (none again.0 (let lt : again.0 < again.1 = again.2 in let le : again.1 ≤ n = again.3 in omega arith)) (none again.1 again.3) again.4,
      )
]
